use Rattle.pb_part_areas.specs.Joins.{blank}
use Rattle.pb_part_areas.proofs.Chains.{within_step}
use Rattle.pb_part_areas.proofs.tidy.wide_of.Goals as goal

pub loop-a-preserved : goal.loop-a-preserved
loop-a-preserved c = record {
  within = λ n role x. within_step c.args.list.now c.loop-a.a-index _ _ n role x c.loop-a-test.true (c.in_ok-add_wide.ensures.within n role x) (c.loop-a.invariant.within n role x);
  fits = λ range cuts h. c.in_ok-add_wide.ensures.fits range cuts (c.loop-a.invariant.fits range cuts h) (h c.loop-a.a-index blank c.loop-a-test.true);
}
