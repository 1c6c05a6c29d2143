use Rattle.pb_part_areas.specs.Areas.{has, have}
use Rattle.pb_part_areas.specs.Joins.{blank}
use Rattle.pb_part_areas.proofs.Around.{near_step, near_end}
use Rattle.pb_part_areas.proofs.bounds.near.Goals as goal

pub loop-a-preserved : goal.loop-a-preserved
loop-a-preserved c = record {
  is = λ n role x.
      near_step _ _ (have c.loop-a.out.items n role x) (have c.keep_near.new.out.items n role x) (has c.args.to n role x) _ n role x c.loop-a-test.true
      (c.in_ok-keep_near.ensures.is n role x) (c.loop-a.invariant.is n role x);
  fits = λ range cuts h. c.in_ok-keep_near.ensures.fits range cuts (c.loop-a.invariant.fits range cuts h) (h c.loop-a.a-index blank c.loop-a-test.true);
}

pub returns-clause-is : goal.returns-clause-is
returns-clause-is c = λ n role x. near_end _ _ (have c.loop-a.out.items n role x) (has c.args.to n role x) _ n role x c.loop-a-test.false (c.loop-a.invariant.is n role x)
