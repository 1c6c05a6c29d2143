use Rattle.pb_part_areas.specs.Joins.{blank}
use Rattle.pb_part_areas.proofs.Covers.{kept_step, kept_end}
use Rattle.pb_part_areas.proofs.sets.beside.Goals as goal

pub loop-b-preserved : goal.loop-b-preserved
loop-b-preserved c = record {
  is = λ n role x. kept_step _ _ _ _ _ _ n role x c.loop-b-test.true (c.in_ok-keep_beside.ensures.is n role x) (c.loop-b.invariant.is n role x);
  fits = λ range cuts f. c.in_ok-keep_beside.ensures.fits range cuts (c.loop-b.invariant.fits range cuts f) (f c.loop-b.b-index blank c.loop-b-test.true);
  some = λ h. c.in_ok-keep_beside.ensures.some (c.loop-b.invariant.some h) (h c.loop-b.b-index blank c.loop-b-test.true);
}

pub returns-clause-is : goal.returns-clause-is
returns-clause-is c = λ n role x. kept_end _ _ _ _ _ n role x c.loop-b-test.false (c.loop-b.invariant.is n role x)
