-- Entries of a table.
use Rattle.std.proofs.Common.{◌≡◌, ℕ, zero, suc, ◌-◌, ◌<◌, ◌≤◌, Bool, false, List, [], ◌∷◌, length, slice_index_or, refl, arith, ap, sym, ◌∙◌, Bor}
use Rattle.pb_core_language.specs.Lists.{nth}
use Rattle.pb_plain.specs.declared.held.Held.{Held, fold-roll-Held}
use Rattle.pb_plain.specs.declared.held.Held.TheVariants.{Just, Each, rolls-Just, rolls-Each}
use Rattle.pb_plain.specs.declared.held.Held.TheOpen as L
use Rattle.pb_plain.specs.Loops.{held_at, held_layer}

pub nth_is : (xs : List Bool) (n : ℕ) → nth xs n ≡ slice_index_or xs n false
nth_is [] n = refl
nth_is (x ∷ xs) zero = refl
nth_is (x ∷ xs) (suc n) = nth_is xs n

pub nth_past : (xs : List Bool) (n : ℕ) → length xs ≤ n → nth xs n ≡ false
nth_past [] n h = refl
nth_past (x ∷ xs) zero h = absurd (omega arith)
nth_past (x ∷ xs) (suc n) h = nth_past xs n (omega arith)

pub nth_later : (x : Bool) (xs : List Bool) (n : ℕ) → (n ≡ 0 → ⊥) → nth (x ∷ xs) n ≡ nth xs (n - 1)
nth_later x xs zero h = absurd (h refl)
nth_later x xs (suc n) h = let e : suc n - 1 ≡ n = omega arith in rw e refl

pub just_is : (r : ℕ) (b : Bool) (rest : Bor Held) → held_at r (Just b rest) ≡ b ∷ held_at r rest.now
just_is r b rest = ap (held_at r) (sym (rolls-Just b rest)) ∙ fold-roll-Held (List Bool) (held_layer r) (L.Just b rest)

pub each_is : (r : ℕ) (table : Bor (List Bool)) (rest : Bor Held) → held_at r (Each table rest) ≡ nth table.now r ∷ held_at r rest.now
each_is r table rest = ap (held_at r) (sym (rolls-Each table rest)) ∙ fold-roll-Held (List Bool) (held_layer r) (L.Each table rest)
