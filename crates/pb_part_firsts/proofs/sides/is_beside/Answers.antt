use Rattle.pb_part_firsts.proofs.Asides.{beside_step, beside_end}
use Rattle.pb_part_firsts.proofs.sides.is_beside.Goals as goal

pub loop-a-init : goal.loop-a-init
loop-a-init c = λ k n role x h. h

pub loop-a-preserved : goal.loop-a-preserved
loop-a-preserved c = λ k n role x h.
    c.loop-a.invariant k n role x (beside_step c.args.part.now c.args.list.now c.loop-a.a-index n role x c.loop-a-test.true k (c.is_apart.ensures c.if-not-is_apart.false n role x) h)

pub returns : goal.returns
returns c = λ _ k n role x. c.loop-a.invariant k n role x (beside_end c.args.part.now c.args.list.now c.loop-a.a-index n role x c.loop-a-test.false)
