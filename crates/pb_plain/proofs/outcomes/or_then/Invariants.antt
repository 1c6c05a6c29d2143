use Rattle.std.proofs.Common.{◌≡◌, ◌++◌, map, drop}
use Rattle.pb_core_language.specs.Outcomes.{or_then}
use Rattle.pb_plain.specs.Finds.{outcome_of}
use Rattle.pb_plain.proofs.outcomes.or_then.Given as goal

abbrev pub invariant-loop-outcome : goal.invariant-loop-outcome
invariant-loop-outcome l =
    map outcome_of l.list.items ++ or_then (map outcome_of (drop l.outcome-index l.outcomes)) (map outcome_of l.rest) ≡ or_then (map outcome_of l.outcomes) (map outcome_of l.rest)
