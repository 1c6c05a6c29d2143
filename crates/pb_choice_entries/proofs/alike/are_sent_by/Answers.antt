use Rattle.std.proofs.Common.{sym, ◌∙◌}
use Rattle.pb_choice_entries.specs.Clashes.{is_sent_by}
use Rattle.pb_choice_entries.proofs.Alikes.{all_step, all_done}
use Rattle.pb_choice_entries.proofs.alike.are_sent_by.Goals as goal

pub loop-entry-preserved : goal.loop-entry-preserved
loop-entry-preserved c =
    all_step (λ e. is_sent_by c.args.source e.kind) c.args.entries.now c.loop-entry.entry-index _ c.loop-entry-test.true (sym c.is_sent_by.ensures ∙ c.if-not-is_sent_by.false) c.loop-entry.invariant

pub returns : goal.returns
returns c = λ _. all_done (λ e. is_sent_by c.args.source e.kind) c.args.entries.now c.loop-entry.entry-index c.loop-entry-test.false c.loop-entry.invariant
