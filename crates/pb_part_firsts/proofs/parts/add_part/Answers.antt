use Rattle.std.proofs.Common.{refl}
use Rattle.pb_part_areas.specs.Fits.{Fits}
use Rattle.pb_part_firsts.proofs.Flats.{one_area, one_added, one_around, one_fits, pushed_around}
use Rattle.pb_part_firsts.proofs.parts.add_part.Goals as goal

pub returns-clause-is : goal.returns-clause-is
returns-clause-is c = one_added _ _ _ c.args.a (one_area _ _ c.args.a c.new-areas.ensures.items c.in_ok-push.ensures.items) c.in_ok-push-2.ensures.items

pub returns-clause-around : goal.returns-clause-around
returns-clause-around c = λ h.
    pushed_around _ _ _ c.in_ok-push-2.ensures.items h (one_around _ c.args.a (one_area _ _ c.args.a c.new-areas.ensures.items c.in_ok-push.ensures.items) refl)

pub returns-clause-fits : goal.returns-clause-fits
returns-clause-fits c = λ range cuts h f.
    one_fits (Fits range cuts) _ _ _ c.args.a (one_area _ _ c.args.a c.new-areas.ensures.items c.in_ok-push.ensures.items) c.in_ok-push-2.ensures.items h f
