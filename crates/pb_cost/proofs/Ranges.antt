-- The numbers of a sound range.
use Rattle.std.proofs.Common.{◌≡◌, ◌≤◌, ℕ, nat_lt, nat_le, true, ◌&&◌, Some, sym, ap, ◌∙◌, arith}
use Rattle.std.proofs.lemmas.Bool.{and_parts}
use Rattle.pb_affine.specs.declared.range.NRange.{NRange}
use Rattle.pb_core_language.specs.Sound.{is_range, reaches}

le_of_test : (a b : ℕ) → nat_le a b ≡ true → a ≤ b
le_of_test a b e = grind arith

parts : (r : NRange) → is_range r ≡ true → (nat_le r.low 100000 ≡ true) × (reaches r.low r.high ≡ true)
parts r h =
    let both = (and_parts (nat_lt 0 r.low) (nat_le r.low 100000 && reaches r.low r.high) h).1 in
    and_parts (nat_le r.low 100000) (reaches r.low r.high) both

pub low_small : (r : NRange) → is_range r ≡ true → r.low ≤ 100000
low_small r h = le_of_test r.low 100000 (parts r h).0

pub low_reaches : (r : NRange) (high : ℕ) → r.high ≡ Some high → is_range r ≡ true → r.low ≤ high
low_reaches r high e h = le_of_test r.low high (sym (ap (reaches r.low) e) ∙ (parts r h).1)
