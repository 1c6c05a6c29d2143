use Rattle.std.proofs.Common.{ap, ◌||◌}
use Rattle.pb_part_areas.specs.Areas.{have}
use Rattle.pb_part_areas.specs.Joins.{blank}
use Rattle.pb_part_areas.proofs.Covers.{missing_step}
use Rattle.pb_part_areas.proofs.sets.missing.Goals as goal

pub loop-b-init : goal.loop-b-init
loop-b-init c = record {
  is = λ n role x. ap (λ z. z || have c.args.list.now n role x) (c.in_ok-all.ensures.is n role x);
  fits = λ range cuts h f. c.in_ok-all.ensures.fits range cuts h;
  some = c.in_ok-all.ensures.some;
}

pub loop-b-preserved : goal.loop-b-preserved
loop-b-preserved c = record {
  is = λ n role x. missing_step c.args.list.now c.loop-b.b-index _ _ _ n role x c.loop-b-test.true (c.in_ok-left.ensures.is n role x) (c.loop-b.invariant.is n role x);
  fits = λ range cuts h f. c.in_ok-left.ensures.fits range cuts (c.loop-b.invariant.fits range cuts h f) (f c.loop-b.b-index blank c.loop-b-test.true);
  some = c.in_ok-left.ensures.some c.loop-b.invariant.some;
}

pub returns-then-len-gt-PIECES-clause-fits : goal.returns-then-len-gt-PIECES-clause-fits
returns-then-len-gt-PIECES-clause-fits c = λ range cuts h f. c.in_ok-uncut.ensures.fits range cuts h
