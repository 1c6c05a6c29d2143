use Rattle.pb_part_areas.proofs.Chains.{within_drop}
use Rattle.pb_part_takers.proofs.held.are_there.Goals as goal

pub loop-a-preserved : goal.loop-a-preserved
loop-a-preserved c = λ n role x h.
    c.loop-a.invariant n role x (within_drop _ _ n role x _ c.loop-a-test.true (c.place_around-place.ensures c.if-place-list.false n role x) h)
