use Rattle.std.proofs.Common.{◌≡◌, map, drop}
use Rattle.pb_core_language.specs.Outcomes.{only_receives}
use Rattle.pb_plain.specs.Finds.{outcome_of}
use Rattle.pb_plain_rules.proofs.tell_rule.only_receives.Given as goal

abbrev pub invariant-loop-outcome : goal.invariant-loop-outcome
invariant-loop-outcome l = only_receives (map outcome_of (drop l.outcome-index l.outcomes)) ≡ only_receives (map outcome_of l.outcomes)
