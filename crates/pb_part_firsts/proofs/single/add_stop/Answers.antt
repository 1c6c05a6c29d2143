use Rattle.std.proofs.Common.{pos}
use Rattle.pb_core_flat.specs.Seated.{is_at}
use Rattle.pb_part_firsts.proofs.Outcomes.{emit_small, emit_fits}
use Rattle.pb_part_firsts.proofs.Singles.{from_zero, stop_added}
use Rattle.pb_part_firsts.proofs.single.add_stop.Goals as goal

pub returns-clause-gives : goal.returns-clause-gives
returns-clause-gives c = λ range roles h.
    stop_added c.end_area-area.result c.args.kind (λ n role x. is_at c.args.end n (pos 0) role x) c.in_ok-push.ensures.items (λ n role x w. c.end_area-area.ensures.is n role x (from_zero range n w) h)

pub returns-clause-small : goal.returns-clause-small
returns-clause-small c = λ k h. emit_small _ _ _ c.args.kind c.in_ok-push.ensures.items k h

pub returns-clause-fits : goal.returns-clause-fits
returns-clause-fits c = λ range cuts h o a s. emit_fits range cuts _ _ _ c.args.kind c.in_ok-push.ensures.items (c.end_area-area.ensures.fits range cuts h o a) s
