use Rattle.std.proofs.Common.{◌≡◌, map, drop}
use Rattle.pb_core_language.specs.Outcomes.{source_of}
use Rattle.pb_plain.specs.Finds.{outcome_of}
use Rattle.pb_plain_rules.proofs.tell_rule.source_of.Given as goal

abbrev pub invariant-loop-outcome : goal.invariant-loop-outcome
invariant-loop-outcome l = source_of (map outcome_of (drop l.outcome-index l.outcomes)) ≡ source_of (map outcome_of l.outcomes)
