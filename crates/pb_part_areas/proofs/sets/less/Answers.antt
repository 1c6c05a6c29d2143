use Rattle.pb_part_areas.specs.Joins.{blank}
use Rattle.pb_part_areas.proofs.Lists.{less_step}
use Rattle.pb_part_areas.proofs.sets.less.Goals as goal

pub loop-a-preserved : goal.loop-a-preserved
loop-a-preserved c = record {
  is = λ n role x. less_step _ _ _ _ _ _ n role x c.loop-a-test.true (c.in_ok-minus.ensures.is n role x) (c.loop-a.invariant.is n role x);
  fits = λ range cuts h f. c.in_ok-minus.ensures.fits range cuts (c.loop-a.invariant.fits range cuts h f) (h c.loop-a.a-index blank c.loop-a-test.true) f;
  some = λ h. c.in_ok-minus.ensures.some (c.loop-a.invariant.some h) (h c.loop-a.a-index blank c.loop-a-test.true);
}
