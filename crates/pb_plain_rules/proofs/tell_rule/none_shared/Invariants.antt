use Rattle.std.proofs.Common.{◌≡◌, map, drop}
use Rattle.pb_core_language.specs.Lists.{none_shared}
use Rattle.pb_core_language.specs.Outcomes.{labels_of}
use Rattle.pb_plain.specs.Finds.{outcome_of}
use Rattle.pb_plain_rules.proofs.tell_rule.none_shared.Given as goal

abbrev pub invariant-loop-outcome : goal.invariant-loop-outcome
invariant-loop-outcome l = none_shared (labels_of (map outcome_of (drop l.outcome-index l.here))) (labels_of (map outcome_of l.before)) ≡ none_shared (labels_of (map outcome_of l.here)) (labels_of (map outcome_of l.before))
