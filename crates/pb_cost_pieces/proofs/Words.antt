-- Numbers of 64 bits that fit.
use Rattle.std.proofs.Common.{◌≡◌, ◌≢◌, ℤ, pos, ◌+ℤ◌, ◌-ℤ◌, ◌≤ℤ◌, ◌<ℤ◌, sym, ap, ◌∙◌, arith, SFits, w64, to_z, of_z, to_z-of_z}
use Rattle.std.proofs.lemmas.Int.{ints}

pub less_word : (a b : ℤ) → SFits w64 a → SFits w64 b → a <ℤ b → to_z w64 (of_z w64 a) <ℤ to_z w64 (of_z w64 b)
less_word a b f g h = omega (arith, ints, f, g, h)

pub next_word : (a : ℤ) → pos 0 ≤ℤ a → a ≤ℤ pos 900000000000 → to_z w64 (of_z w64 (to_z w64 (of_z w64 a) +ℤ pos 1)) ≡ a +ℤ pos 1
next_word a h g = omega (arith, ints, h, g)

pub difference_word : (a b : ℤ) → SFits w64 a → SFits w64 b → SFits w64 (a -ℤ b) → to_z w64 (of_z w64 (to_z w64 (of_z w64 a) -ℤ to_z w64 (of_z w64 b))) ≡ a -ℤ b
difference_word a b f g h = ap (λ x. to_z w64 (of_z w64 (x -ℤ to_z w64 (of_z w64 b)))) (to_z-of_z f) ∙ ap (λ x. to_z w64 (of_z w64 (a -ℤ x))) (to_z-of_z g) ∙ to_z-of_z h

pub sum_word : (a b : ℤ) → SFits w64 a → SFits w64 b → SFits w64 (a +ℤ b) → to_z w64 (of_z w64 (to_z w64 (of_z w64 a) +ℤ to_z w64 (of_z w64 b))) ≡ a +ℤ b
sum_word a b f g h = ap (λ x. to_z w64 (of_z w64 (x +ℤ to_z w64 (of_z w64 b)))) (to_z-of_z f) ∙ ap (λ x. to_z w64 (of_z w64 (a +ℤ x))) (to_z-of_z g) ∙ to_z-of_z h

pub apart_words : (a b : ℤ) → of_z w64 a ≢ of_z w64 b → a ≢ b
apart_words a b h e = h (ap (of_z w64) e)

pub same_words : (a b : ℤ) → SFits w64 a → SFits w64 b → of_z w64 a ≡ of_z w64 b → a ≡ b
same_words a b f g e = sym (to_z-of_z f) ∙ ap (to_z w64) e ∙ to_z-of_z g
