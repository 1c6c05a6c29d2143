use Rattle.pb_project_piece.proofs.StillEnds.{passed_step}
use Rattle.pb_project_piece.proofs.fixed.has_end.Goals as goal

pub loop-one-preserved : goal.loop-one-preserved
loop-one-preserved c = passed_step c.args.ends.now c.loop-one.one-index c.args.end c.loop-one-test.true c.loop-one.invariant
