-- The broken rule that a value of the program stands for.
use Rattle.std.specs.Prelude.{ℕ, Bool, Option, Some, None, List, [], ◌++◌, map, length}
use Rattle.pb_core_language.specs.Ranks as R
use Rattle.pb_core_language.specs.Ranks.{seat_at}
use Rattle.pb_core_language.specs.Tree.{Mark}
use Rattle.pb_core_language.specs.Flat.{Block}
use Rattle.pb_core_language.specs.Outcomes.{Outcome}
use Rattle.pb_core_language.specs.Rules as B
use Rattle.pb_core_language.specs.Lists.{over_below}
use Rattle.pb_core_language.specs.Rules.{nobody, somebody, ranked, each_origin, strays, loners, deserted, misfits, receives_only, keeps_source, keeps_labels}
use Rattle.pb_plain.specs.declared.flat.Seat.{Seat}
use Rattle.pb_plain.specs.View.{mark_of, seat_of}
use Rattle.pb_plain_rules.specs.declared.breach.Breach.{Breach}

abbrev pub seat_if : Option Seat → Option R.Seat
seat_if None = None
seat_if (Some s) = Some (seat_of s)

abbrev pub breach_of : Breach → B.Breach
breach_of b = record { rule = b.rule; mark = mark_of b.mark; at = seat_if b.at }

-- the places of the rules 10 to 12 among these ranks, rank by rank
abbrev pub misfitting : List R.Seat → Block → ℕ → (List Outcome → List Outcome → Bool) → List B.Breach
misfitting ranks b k fits = over_below (length ranks) (λ r. map (ranked k (seat_at r ranks)) (misfits fits [] r b))

-- the places of all rules, where these roles have no index
abbrev pub all_broken : List Mark → List R.Seat → Block → List B.Breach
all_broken empty ranks b =
    map (nobody 6) empty
    ++ (map (somebody 7) (each_origin (strays ranks) b)
    ++ (map (somebody 8) (each_origin loners b)
    ++ (map (nobody 9) (deserted (length ranks) [] b)
    ++ (misfitting ranks b 10 receives_only ++ (misfitting ranks b 11 keeps_source ++ misfitting ranks b 12 keeps_labels)))))
