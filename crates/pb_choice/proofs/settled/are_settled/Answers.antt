use Rattle.pb_choice.proofs.Passed.{settled_step, settled_end}
use Rattle.pb_choice.proofs.settled.are_settled.Goals as goal

pub loop-i-preserved : goal.loop-i-preserved
loop-i-preserved c = λ rest.
    c.loop-i.invariant (settled_step c.args.branches.now c.loop-i.i c.index-branches-i.result c.args.best c.loop-i-test.true c.index-branches-i.is (c.is_settled.ensures c.if-not-is_settled.false) rest)

pub returns : goal.returns
returns c = λ _. c.loop-i.invariant (settled_end c.args.branches.now c.loop-i.i c.args.best c.loop-i-test.false)
