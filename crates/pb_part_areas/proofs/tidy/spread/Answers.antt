use Rattle.std.proofs.Common.{◌∙◌}
use Rattle.pb_part_areas.specs.Areas.{have}
use Rattle.pb_part_areas.specs.Joins.{blank}
use Rattle.pb_part_areas.proofs.Chains.{spread_start, spread_end}
use Rattle.pb_part_areas.proofs.Covers.{kept_step, kept_end}
use Rattle.pb_part_areas.proofs.tidy.spread.Goals as goal

pub loop-a-init : goal.loop-a-init
loop-a-init c = record {
  is = λ n role x. spread_start (have c.in_ok-out.out.items n role x) (have c.in_ok-wide.wide.items n role x) (have c.args.list.now n role x) (rw c.deref.ensures.value at (c.in_ok-out.ensures.is n role x));
  kept = λ n role x h. (rw c.deref.ensures.value at (c.in_ok-out.ensures.is n role x)) ∙ h;
  fits = λ range cuts h. (rw c.deref.ensures.value at (c.in_ok-out.ensures.fits range cuts)) (c.in_ok-wide.ensures.fits range cuts h);
}

pub loop-a-preserved : goal.loop-a-preserved
loop-a-preserved c = record {
  is = λ n role x. kept_step _ _ _ _ _ _ n role x c.loop-a-test.true (rw c.deref-in-loop-a.ensures.value at (c.in_ok-add_beside.ensures.is n role x)) (c.loop-a.invariant.is n role x);
  kept = λ n role x h. c.in_ok-add_beside.ensures.kept n role x (c.loop-a.invariant.kept n role x h);
  fits = λ range cuts h. c.in_ok-add_beside.ensures.fits range cuts (c.loop-a.invariant.fits range cuts h) (h c.loop-a.a-index blank c.loop-a-test.true);
}

pub returns-clause-is : goal.returns-clause-is
returns-clause-is c = λ n role x.
    spread_end (have c.loop-a.out.items n role x) (have c.in_ok-wide.wide.items n role x) (have c.args.list.now n role x)
    (kept_end _ _ _ _ _ n role x c.loop-a-test.false (c.loop-a.invariant.is n role x)) (c.loop-a.invariant.kept n role x) (c.in_ok-wide.ensures.within n role x)
