use Rattle.pb_typed_frame.proofs.Rounds.{functions_round}
use Rattle.pb_typed_frame.proofs.list.push_labels.Goals as goal

pub loop-at-preserved : goal.loop-at-preserved
loop-at-preserved c =
    functions_round c.args.labels.now c.args.types.now c.loop-at.at c.index-labels-at.result c.carried_of.result c.loop-at.out.items c.push_label.new.out.items _
    c.loop-at-test.true c.index-labels-at.is c.carried_of.ensures c.in_ok-push_label.ensures c.loop-at.invariant
