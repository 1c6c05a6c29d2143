-- The value of digits.
use Rattle.std.proofs.Common.{◌≡◌, ℕ, suc, ◌+◌, ◌-◌, ◌*◌, ◌<◌, ◌≤◌, false, List, [], ◌∷◌, length, drop, get_or, ap, ◌∙◌, arith, nat_le}
use Rattle.std.proofs.Math.Seq.{drop-cons}
use Rattle.std.proofs.lemmas.Bool.{lt-leb}
use Rattle.pb_text.specs.Lexemes.{value_from}

grows : (n : ℕ) (digits : List ℕ) → n ≤ value_from n digits
grows n [] = omega arith
grows n (digit ∷ digits) = omega (arith, grows (10 * n + (digit - 48)) digits)

pub too_large : (digits : List ℕ) (n at : ℕ) → at < length digits → value_from 0 digits ≡ value_from n (drop at digits)
    → 2000000000 < 10 * n + (get_or digits at 0 - 48) → nat_le (value_from 0 digits) 2000000000 ≡ false
too_large digits n at there so_far large =
    let next : value_from 0 digits ≡ value_from (10 * n + (get_or digits at 0 - 48)) (drop (suc at) digits) =
    so_far ∙ ap (value_from n) (drop-cons digits at 0 there) in
    lt-leb (value_from 0 digits) 2000000000 (omega (arith, next, grows (10 * n + (get_or digits at 0 - 48)) (drop (suc at) digits)))
