use Rattle.std.proofs.Common.{◌≡◌, map, drop}
use Rattle.pb_core_language.specs.Lists.{is_among}
use Rattle.pb_core_language.specs.Outcomes.{labels_of}
use Rattle.pb_plain.specs.Finds.{outcome_of}
use Rattle.pb_plain_rules.proofs.tell_rule.is_label.Given as goal

abbrev pub invariant-loop-outcome : goal.invariant-loop-outcome
invariant-loop-outcome l = is_among l.label (labels_of (map outcome_of (drop l.outcome-index l.outcomes))) ≡ is_among l.label (labels_of (map outcome_of l.outcomes))
