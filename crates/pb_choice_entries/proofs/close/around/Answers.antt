use Rattle.pb_choice_entries.proofs.Closes.{surround_step}
use Rattle.pb_choice_entries.proofs.close.around.Goals as goal

pub loop-entry-preserved : goal.loop-entry-preserved
loop-entry-preserved c =
    surround_step c.loop-entry.all c.in_ok-all-2.all c.args.here.now c.loop-entry.entry-index _ c.loop-entry-test.true c.in_ok-all-2.ensures c.loop-entry.invariant
