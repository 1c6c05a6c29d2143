use Rattle.pb_rules.proofs.CutSets.{next_listed, next_small, all_listed}
use Rattle.pb_rules.proofs.cuts.offsets_of.Goals as goal

pub loop-one-preserved : goal.loop-one-preserved
loop-one-preserved c = record {
  small = next_small c.args.wide.now c.loop-one.one-index c.loop-one-test.true c.loop-one.invariant.small;
  same = next_listed c.args.wide.now c.loop-one.one-index _ c.narrow.result _ _ _ c.loop-one-test.true c.narrow.ensures c.in_ok-add.ensures c.loop-one.invariant.same;
}

pub returns : goal.returns
returns c = all_listed _ c.args.wide.now c.loop-one.one-index _ c.loop-one-test.false c.loop-one.invariant.same
