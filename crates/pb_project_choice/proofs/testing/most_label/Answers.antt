use Rattle.std.proofs.Common.{sym, ◌∙◌}
use Rattle.std.proofs.lemmas.Bool.{true≢false}
use Rattle.pb_project_choice.proofs.LabelHalves.{most_step, most_done}
use Rattle.pb_project_choice.proofs.testing.most_label.Goals as goal

pub loop-entry-init : goal.loop-entry-init
loop-entry-init c = λ m there none. absurd (true≢false (sym there ∙ none))

pub loop-entry-preserved : goal.loop-entry-preserved
loop-entry-preserved c =
    most_step c.args.entries.now c.loop-entry.entry-index _ c.loop-entry.best c.greater-best.result c.loop-entry-test.true c.greater-best.ensures.best c.greater-best.ensures.label c.loop-entry.invariant

pub returns : goal.returns
returns c = most_done c.args.entries.now c.loop-entry.entry-index c.loop-entry.best c.loop-entry-test.false c.loop-entry.invariant
