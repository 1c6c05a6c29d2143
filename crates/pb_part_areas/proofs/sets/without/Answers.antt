use Rattle.pb_part_areas.specs.Joins.{blank}
use Rattle.pb_part_areas.proofs.Lists.{without_step}
use Rattle.pb_part_areas.proofs.sets.without.Goals as goal

pub loop-b-preserved : goal.loop-b-preserved
loop-b-preserved c = record {
  is = λ n role x. without_step _ _ _ _ _ n role x c.loop-b-test.true (c.in_ok-left.ensures.is n role x) (c.loop-b.invariant.is n role x);
  fits = λ range cuts h f. c.in_ok-left.ensures.fits range cuts (c.loop-b.invariant.fits range cuts h f) (f c.loop-b.b-index blank c.loop-b-test.true);
  some = λ h. c.in_ok-left.ensures.some (c.loop-b.invariant.some h);
}
