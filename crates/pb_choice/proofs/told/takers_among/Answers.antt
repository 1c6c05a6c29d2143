use Rattle.pb_choice.proofs.Tolds.{takers_start, takers_step, takers_done}
use Rattle.pb_choice.proofs.told.takers_among.Goals as goal

pub loop-branch-init : goal.loop-branch-init
loop-branch-init c = takers_start c.args.setting.now.range c.args.setting.now.whole.now c.args.held.now c.args.branches.now c.new-areas.result.items c.new-areas.ensures.items

pub loop-branch-preserved : goal.loop-branch-preserved
loop-branch-preserved c =
    takers_step c.args.setting.now.range c.args.setting.now.whole.now c.args.held.now c.args.branches.now c.loop-branch.branch-index c.branch-item.result c.loop-branch.areas.items c.takers_in.new.out.items
    c.loop-branch-test.true c.branch-item.is c.in_ok-takers_in.ensures c.loop-branch.invariant

pub returns : goal.returns
returns c =
    takers_done c.args.setting.now.range c.args.setting.now.whole.now c.args.held.now c.args.branches.now c.loop-branch.branch-index c.loop-branch.areas.items c.loop-branch-test.false c.loop-branch.invariant
