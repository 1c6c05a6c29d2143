use Rattle.std.proofs.Common.{◌≡◌, map, drop}
use Rattle.pb_core_language.specs.Outcomes.{only_from}
use Rattle.pb_plain.specs.Finds.{outcome_of}
use Rattle.pb_plain_rules.proofs.tell_rule.only_from.Given as goal

abbrev pub invariant-loop-outcome : goal.invariant-loop-outcome
invariant-loop-outcome l = only_from l.source (map outcome_of (drop l.outcome-index l.outcomes)) ≡ only_from l.source (map outcome_of l.outcomes)
