use Rattle.pb_local.specs.Tree.{program_of}
use Rattle.pb_typed_frame.proofs.Rounds.{owns_round}
use Rattle.pb_typed_frame.proofs.head.push_owns.Goals as goal

pub loop-at-preserved : goal.loop-at-preserved
loop-at-preserved c =
    owns_round (program_of c.args.local.now) c.args.labels.now c.args.types.now c.loop-at.at c.index-labels-at.result c.carried_of.result c.loop-at.out.items c.push_own.new.out.items _
    c.loop-at-test.true c.index-labels-at.is c.carried_of.ensures c.in_ok-push_own.ensures c.loop-at.invariant
