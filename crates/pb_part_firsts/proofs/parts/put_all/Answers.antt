use Rattle.pb_part_areas.specs.Joins.{blank}
use Rattle.pb_part_areas.proofs.Lists.{add_step, add_end}
use Rattle.pb_part_firsts.proofs.parts.put_all.Goals as goal

pub loop-a-preserved : goal.loop-a-preserved
loop-a-preserved c = record {
  is = λ n role x. add_step _ _ _ _ _ n role x c.loop-a-test.true (c.in_ok-put.ensures.is n role x) (c.loop-a.invariant.is n role x);
  around = λ h. c.in_ok-put.ensures.around (c.loop-a.invariant.around h);
  fits = λ range cuts h f. c.in_ok-put.ensures.fits range cuts (c.loop-a.invariant.fits range cuts h f) (f c.loop-a.a-index blank c.loop-a-test.true);
}

pub returns-clause-is : goal.returns-clause-is
returns-clause-is c = λ n role x. add_end _ _ _ _ n role x c.loop-a-test.false (c.loop-a.invariant.is n role x)
