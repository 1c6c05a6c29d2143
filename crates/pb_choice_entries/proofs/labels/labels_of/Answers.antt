use Rattle.std.proofs.Common.{not}
use Rattle.pb_choice_entries.specs.Clashes.{is_label}
use Rattle.pb_choice_entries.proofs.Alikes.{all_done}
use Rattle.pb_choice_entries.proofs.Knowns.{known_step}
use Rattle.pb_choice_entries.proofs.labels.labels_of.Goals as goal

pub loop-entry-preserved : goal.loop-entry-preserved
loop-entry-preserved c = λ l. known_step l c.args.entries.now c.loop-entry.entry-index _ _ _ c.loop-entry-test.true (c.in_ok-add_label.ensures l) (c.loop-entry.invariant l)

pub returns : goal.returns
returns c = λ l h. all_done (λ e. not (is_label l e.kind)) c.args.entries.now c.loop-entry.entry-index c.loop-entry-test.false (c.loop-entry.invariant l h)
