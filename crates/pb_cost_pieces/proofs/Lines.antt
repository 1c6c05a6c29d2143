-- Lines through a number at one N.
use Rattle.std.proofs.Common.{◌≡◌, ℤ, pos, ◌+ℤ◌, ◌-ℤ◌, ◌*ℤ◌, refl, sym, ap, ◌∙◌, arith}
use Rattle.std.proofs.lemmas.Int.{ints}
use lib.IntN.{zero-*ℤ, *ℤ-zero}
use Rattle.pb_cost_pieces.specs.Lines.{along}
use Rattle.pb_cost_pieces.proofs.Products.{times_sum_is, times_next, sum_times, difference_times}

pub along_is : (start slope from n : ℤ) → along start slope from n ≡ start +ℤ slope *ℤ (n -ℤ from)
unfolding along
along_is start slope from n = refl

-- sums of whole numbers, with products as numbers of their own
add_nothing : (x s p : ℤ) → x ≡ s +ℤ p → p ≡ pos 0 → x ≡ s
add_nothing x s p e z = omega (arith, ints)

add_more : (x y s p q d : ℤ) → x ≡ s +ℤ p → y ≡ s +ℤ q → p ≡ q +ℤ d → x ≡ y +ℤ d
add_more x y s p q d e f g = omega (arith, ints)

add_over : (x y z s p q r : ℤ) → x ≡ y +ℤ p → y ≡ s +ℤ q → z ≡ s +ℤ r → r ≡ q +ℤ p → x ≡ z
add_over x y z s p q r e f g h = omega (arith, ints)

add_both : (x y z s t p q r : ℤ) → x ≡ (s +ℤ t) +ℤ p → y ≡ s +ℤ q → z ≡ t +ℤ r → p ≡ q +ℤ r → x ≡ y +ℤ z
add_both x y z s t p q r e f g h = omega (arith, ints)

take_both : (x y z s t p q r : ℤ) → x ≡ (s -ℤ t) +ℤ p → y ≡ s +ℤ q → z ≡ t +ℤ r → p ≡ q -ℤ r → x ≡ y -ℤ z
take_both x y z s t p q r e f g h = omega (arith, ints)

nothing_left : (a : ℤ) → a -ℤ a ≡ pos 0
nothing_left a = omega (arith, ints)

one_more : (n from : ℤ) → (n +ℤ pos 1) -ℤ from ≡ (n -ℤ from) +ℤ pos 1
one_more n from = omega (arith, ints)

over : (from m n : ℤ) → n -ℤ from ≡ (m -ℤ from) +ℤ (n -ℤ m)
over from m n = omega (arith, ints)

back_again : (a b : ℤ) → a ≡ (a -ℤ b) +ℤ b
back_again a b = omega (arith, ints)

pub along_here : (start slope from : ℤ) → along start slope from from ≡ start
along_here start slope from = add_nothing _ start _ (along_is start slope from from) (ap (λ x. slope *ℤ x) (nothing_left from) ∙ *ℤ-zero slope)

pub along_next : (start slope from n : ℤ) → along start slope from (n +ℤ pos 1) ≡ along start slope from n +ℤ slope
along_next start slope from n = add_more _ _ start _ _ slope (along_is start slope from (n +ℤ pos 1)) (along_is start slope from n) (times_next slope (n -ℤ from) ((n +ℤ pos 1) -ℤ from) (one_more n from))

pub along_anew : (start slope from m n : ℤ) → along (along start slope from m) slope m n ≡ along start slope from n
along_anew start slope from m n =
    add_over _ _ _ start _ _ _ (along_is (along start slope from m) slope m n) (along_is start slope from m) (along_is start slope from n) (times_sum_is slope (m -ℤ from) (n -ℤ m) (n -ℤ from) (over from m n))

pub along_sum : (s t a b from n : ℤ) → along (s +ℤ t) (a +ℤ b) from n ≡ along s a from n +ℤ along t b from n
along_sum s t a b from n = add_both _ _ _ s t _ _ _ (along_is (s +ℤ t) (a +ℤ b) from n) (along_is s a from n) (along_is t b from n) (sum_times a b (n -ℤ from))

pub along_difference : (s t a b from n : ℤ) → along (s -ℤ t) (a -ℤ b) from n ≡ along s a from n -ℤ along t b from n
along_difference s t a b from n =
    take_both _ _ _ s t _ _ _ (along_is (s -ℤ t) (a -ℤ b) from n) (along_is s a from n) (along_is t b from n) (difference_times a b (a -ℤ b) (n -ℤ from) (back_again a b))

pub along_flat : (s from n : ℤ) → along s (pos 0) from n ≡ s
along_flat s from n = add_nothing _ s _ (along_is s (pos 0) from n) (zero-*ℤ (n -ℤ from))

less_zero : (n from : ℤ) → (n -ℤ from) -ℤ pos 0 ≡ n -ℤ from
less_zero n from = omega (arith, ints)

-- what stands behind nothing
pub along_zero : (start slope n : ℤ) → along start slope (pos 0) n ≡ start +ℤ slope *ℤ n
along_zero start slope n = along_is start slope (pos 0) n ∙ ap (λ x. start +ℤ slope *ℤ x) (no_less n) where
  no_less : (x : ℤ) → x -ℤ pos 0 ≡ x
  no_less x = omega (arith, ints)

-- the same line, counted from its start
pub along_from_zero : (start slope from n : ℤ) → along start slope (pos 0) (n -ℤ from) ≡ along start slope from n
along_from_zero start slope from n = along_is start slope (pos 0) (n -ℤ from) ∙ ap (λ x. start +ℤ slope *ℤ x) (less_zero n from) ∙ sym (along_is start slope from n)
