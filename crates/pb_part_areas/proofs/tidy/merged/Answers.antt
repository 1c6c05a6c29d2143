use Rattle.pb_part_areas.specs.Joins.{blank}
use Rattle.pb_part_areas.proofs.Lists.{add_step}
use Rattle.pb_part_areas.proofs.tidy.merged.Goals as goal

pub loop-a-preserved : goal.loop-a-preserved
loop-a-preserved c = record {
  is = λ n role x. add_step _ _ _ _ _ n role x c.loop-a-test.true (c.in_ok-keep.ensures.is n role x) (c.loop-a.invariant.is n role x);
  fits = λ range cuts h f. c.in_ok-keep.ensures.fits range cuts (c.loop-a.invariant.fits range cuts h f) (f c.loop-a.a-index blank c.loop-a-test.true);
}

pub returns-clause-fits : goal.returns-clause-fits
returns-clause-fits c = λ range cuts h f. c.in_ok-areas.ensures.fits range cuts (c.loop-a.invariant.fits range cuts h f)
