use Rattle.pb_part_areas.specs.Joins.{blank}
use Rattle.pb_part_areas.proofs.Lists.{overlap_step, overlap_end}
use Rattle.pb_part_areas.proofs.sets.overlap_all.Goals as goal

pub loop-b-preserved : goal.loop-b-preserved
loop-b-preserved c = record {
  is = λ n role x. overlap_step _ _ _ _ _ _ n role x c.loop-b-test.true (c.in_ok-overlap.ensures.is n role x) (c.loop-b.invariant.is n role x);
  fits = λ range cuts h fa f. c.in_ok-overlap.ensures.fits range cuts (c.loop-b.invariant.fits range cuts h fa f) fa (f c.loop-b.b-index blank c.loop-b-test.true);
  some = λ h. c.in_ok-overlap.ensures.some (c.loop-b.invariant.some h);
}

pub returns-clause-is : goal.returns-clause-is
returns-clause-is c = λ n role x. overlap_end _ _ _ _ _ n role x c.loop-b-test.false (c.loop-b.invariant.is n role x)
