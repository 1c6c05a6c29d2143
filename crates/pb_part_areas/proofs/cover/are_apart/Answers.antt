use Rattle.pb_part_areas.specs.Areas.{has}
use Rattle.pb_part_areas.proofs.Covers.{apart_step, apart_end}
use Rattle.pb_part_areas.proofs.cover.are_apart.Goals as goal

pub loop-a-preserved : goal.loop-a-preserved
loop-a-preserved c = λ n role x k.
    c.loop-a.invariant n role x (apart_step c.args.list.now c.loop-a.a-index (has c.args.b n role x) n role x c.loop-a-test.true (c.is_apart.ensures c.if-not-is_apart.false n role x) k)

pub returns : goal.returns
returns c = λ _ n role x. c.loop-a.invariant n role x (apart_end c.args.list.now c.loop-a.a-index (has c.args.b n role x) n role x c.loop-a-test.false)
