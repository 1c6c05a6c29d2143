use Rattle.pb_part_areas.proofs.Chains.{within_drop}
use Rattle.pb_part_areas.proofs.tidy.are_within.Goals as goal

pub loop-i-preserved : goal.loop-i-preserved
loop-i-preserved c = λ n role x h.
    c.loop-i.invariant n role x (within_drop _ _ n role x _ c.loop-i-test.true (c.is_within.ensures c.if-not-is_within.false n role x) h)
