-- Two parts of a text, one after the other.
use Rattle.std.proofs.Common.{ℕ, List, ◌++◌, Option, Result, Ok, Err, OnOk}
use Rattle.std.specs.Io.KnownBytes.{Appends}
use Rattle.pb_cli_status.proofs.Fronts.{appends_both}

pub both_then : {T E : Type 0} (result : Result T E) (start middle last : Option (List ℕ)) (xs ys : List ℕ)
    → Appends start middle xs → OnOk result (Appends middle last ys) → OnOk result (Appends start last (xs ++ ys))
both_then (Ok v) start middle last xs ys before now = appends_both start middle last xs ys before now
both_then (Err e) start middle last xs ys before now = now
