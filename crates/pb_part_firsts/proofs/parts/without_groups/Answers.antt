use Rattle.std.proofs.Common.{refl}
use Rattle.pb_part_areas.specs.Fits.{Fits}
use Rattle.pb_part_firsts.proofs.Flats.{part_ahead, first_around, others_around, first_fits, others_fit}
use Rattle.pb_part_firsts.proofs.Groups.{without_step, without_end}
use Rattle.pb_part_firsts.proofs.parts.without_groups.Goals as goal

pub loop-group-init : goal.loop-group-init
loop-group-init c = record {
  rest = λ h g n role x. refl;
  around = λ h. h;
  ahead = λ h. h;
  coming = λ range cuts f. f;
  fits = λ range cuts r a. r;
}

pub loop-group-preserved : goal.loop-group-preserved
loop-group-preserved c =
    let group = c.group-item.result in
    let split = part_ahead c.args.groups.now c.loop-group.group-index group c.loop-group-test.true c.group-item.is in
    record {
      rest = λ h g n role x. without_step _ _ group _ _ _ n role x split
          (c.in_ok-left.ensures.rest (c.loop-group.invariant.around h) (first_around _ _ group split (c.loop-group.invariant.ahead g)) n role x) (c.loop-group.invariant.rest h g n role x);
      around = λ h. c.in_ok-left.ensures.around (c.loop-group.invariant.around h);
      ahead = λ h. others_around _ _ group split (c.loop-group.invariant.ahead h);
      coming = λ range cuts f. others_fit (Fits range cuts) _ _ group split (c.loop-group.invariant.coming range cuts f);
      fits = λ range cuts r a. c.in_ok-left.ensures.fits range cuts (c.loop-group.invariant.fits range cuts r a) (first_fits (Fits range cuts) _ _ group split (c.loop-group.invariant.coming range cuts a));
    }

pub returns-clause-rest : goal.returns-clause-rest
returns-clause-rest c = λ h g n role x. without_end c.args.groups.now _ _ _ n role x c.loop-group-test.false (c.loop-group.invariant.rest h g n role x)

pub returns-clause-around : goal.returns-clause-around
returns-clause-around c = λ h. c.loop-group.invariant.around h

pub returns-clause-fits : goal.returns-clause-fits
returns-clause-fits c = λ range cuts r a. c.loop-group.invariant.fits range cuts r a
