use Rattle.std.proofs.Common.{refl}
use Rattle.pb_part_areas.specs.Joins.{blank}
use Rattle.pb_part_firsts.proofs.Outcomes.{emit_step, emit_small, emit_end, emit_fits}
use Rattle.pb_part_firsts.proofs.stop.emit.Goals as goal

pub loop-area-init : goal.loop-area-init
loop-area-init c = record { gives = λ roles n role x o. refl; fits = λ range cuts f h. h; small = λ k h. h }

pub loop-area-preserved : goal.loop-area-preserved
loop-area-preserved c = record {
  gives = λ roles n role x o. emit_step roles _ _ _ _ _ n role x o _ c.loop-area-test.true c.in_ok-push.ensures.items (c.loop-area.invariant.gives roles n role x o);
  fits = λ range cuts f h. emit_fits range cuts _ _ _ c.args.kind c.in_ok-push.ensures.items (f c.loop-area.area-index blank c.loop-area-test.true) (c.loop-area.invariant.fits range cuts f h);
  small = λ k h. emit_small _ _ _ c.args.kind c.in_ok-push.ensures.items k (c.loop-area.invariant.small k h);
}

pub returns-clause-gives : goal.returns-clause-gives
returns-clause-gives c = λ roles n role x o. emit_end roles c.args.areas.now c.loop-area.area-index _ c.args.kind n role x o _ c.loop-area-test.false (c.loop-area.invariant.gives roles n role x o)
