-- The rules on what a rank that is told of a choice finds first, of which the program holds one.
use Rattle.std.specs.Prelude.{Bool, List}
use Rattle.pb_core_language.specs.Outcomes as O
use Rattle.pb_core_language.specs.Rules.{receives_only, keeps_source, keeps_labels}
use Rattle.pb_plain_rules.specs.declared.tell_rule.TellRule.{TellRule}
use Rattle.pb_plain_rules.specs.declared.tell_rule.TellRule.TheVariants.{ReceivesOnly, OneSource, OwnLabels}

abbrev pub fits : TellRule → List O.Outcome → List O.Outcome → Bool
fits ReceivesOnly = receives_only
fits OneSource = keeps_source
fits OwnLabels = keeps_labels
