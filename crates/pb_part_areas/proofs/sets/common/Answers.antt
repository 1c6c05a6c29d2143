use Rattle.pb_part_areas.specs.Joins.{blank}
use Rattle.pb_part_areas.proofs.Lists.{common_step}
use Rattle.pb_part_areas.proofs.sets.common.Goals as goal

pub loop-a-preserved : goal.loop-a-preserved
loop-a-preserved c = record {
  is = λ n role x. common_step _ _ _ _ _ _ n role x c.loop-a-test.true (c.in_ok-overlap_all.ensures.is n role x) (c.loop-a.invariant.is n role x);
  fits = λ range cuts h f. c.in_ok-overlap_all.ensures.fits range cuts (c.loop-a.invariant.fits range cuts h f) (h c.loop-a.a-index blank c.loop-a-test.true) f;
  some = c.in_ok-overlap_all.ensures.some c.loop-a.invariant.some;
}
