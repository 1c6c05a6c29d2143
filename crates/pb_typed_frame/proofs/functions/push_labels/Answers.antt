use Rattle.std.proofs.Common.{arith}
use Rattle.pb_local.specs.Tree.{program_of}
use Rattle.pb_typed_frame.proofs.Rounds.{labels_round, behind_round}
use Rattle.pb_typed_frame.proofs.functions.push_labels.Goals as goal

pub loop-number-preserved : goal.loop-number-preserved
loop-number-preserved c = record {
  most = omega (arith, c.in_ok-at.ensures.most, c.loop-number.invariant.most);
  text = labels_round (program_of c.args.local.now) c.args.labels.now c.args.types.now c.loop-number.number c.index-labels-number.result c.carried_of.result c.args.bodies.now c.loop-number.at c.in_ok-at.at
      c.loop-number.out.items c.push_label.new.out.items _ c.loop-number-test.true c.index-labels-number.is c.carried_of.ensures c.in_ok-at.ensures.text c.in_ok-at.ensures.behind c.loop-number.invariant.text;
  behind = behind_round c.args.labels.now c.args.types.now c.loop-number.number c.index-labels-number.result c.carried_of.result c.args.bodies.now c.loop-number.at c.in_ok-at.at _
      c.loop-number-test.true c.index-labels-number.is c.carried_of.ensures c.in_ok-at.ensures.behind c.loop-number.invariant.behind;
}
