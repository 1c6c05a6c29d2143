use Rattle.std.proofs.Common.{inl}
use Rattle.pb_choice.proofs.Branching.{among_start, among_step, among_done}
use Rattle.pb_choice.proofs.Passed.{among_passed}
use Rattle.pb_choice.proofs.branches.among_kept.Goals as goal

pub loop-i-init : goal.loop-i-init
loop-i-init c = (
  inl c.new-2.ensures.items,
  among_start c.args.setting.now.range c.args.setting.now.whole.now c.args.held.now c.args.told.now c.args.branches.now c.new.result.items c.new-3.result.items c.args.best c.new.ensures.items c.new-3.ensures.items,
)

pub returns-then-are_settled : goal.returns-then-are_settled
returns-then-are_settled c =
    among_passed c.args.setting.now.range c.args.setting.now.whole.now c.args.held.now c.args.told.now c.args.branches.now c.loop-i.i
    c.loop-i.past.entries.items c.loop-i.past.mixed.items c.args.best c.loop-i.best (c.are_settled.ensures c.if-are_settled.true) c.loop-i.invariant.1

pub loop-i-preserved : goal.loop-i-preserved
loop-i-preserved c = (
  c.in_ok-best.ensures.current c.loop-i.invariant.0,
  among_step c.args.setting.now.range c.args.setting.now.whole.now c.args.held.now c.args.told.now c.args.branches.now c.loop-i.i c.index-branches-i.result
      c.loop-i.past.entries.items c.loop-i.past.mixed.items c.branch_kept.new.past.entries.items c.branch_kept.new.past.mixed.items c.args.best c.loop-i.best c.in_ok-best.best
      c.loop-i-test.true c.index-branches-i.is (c.in_ok-best.ensures.first c.loop-i.invariant.0) c.loop-i.invariant.1,
)

pub returns : goal.returns
returns c =
    among_done c.args.setting.now.range c.args.setting.now.whole.now c.args.held.now c.args.told.now c.args.branches.now c.loop-i.i
    c.loop-i.past.entries.items c.loop-i.past.mixed.items c.args.best c.loop-i.best c.loop-i-test.false c.loop-i.invariant.1
