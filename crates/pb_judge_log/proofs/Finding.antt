-- A name of 1 to 64 bytes.
use Rattle.std.proofs.Common.{◌≡◌, ℕ, ◌<◌, ◌⊎◌, inl, inr, true, false, List, length, None, refl, arith}
use Rattle.std.specs.Prelude.{nat_lt}
use Rattle.std.proofs.lemmas.Bool.Decides.{nat_tests}
use Rattle.pb_judge_log.specs.Reading.{find_in}

none_empty : (names : List (List ℕ)) (field : List ℕ) → length field ≡ 0 → find_in names field ≡ None
none_empty names field e = rw e refl

none_long : (names : List (List ℕ)) (field : List ℕ) → 64 < length field → find_in names field ≡ None
none_long names field lt =
    let a : nat_lt 0 (length field) ≡ true = grind (arith, nat_tests) in
    let b : nat_lt (length field) 65 ≡ false = grind (arith, nat_tests) in
    rw (a, b) refl

pub none_found : (names : List (List ℕ)) (field : List ℕ) → (length field ≡ 0) ⊎ (64 < length field) → find_in names field ≡ None
none_found names field (inl e) = none_empty names field e
none_found names field (inr lt) = none_long names field lt
