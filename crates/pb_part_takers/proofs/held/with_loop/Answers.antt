use Rattle.std.proofs.Common.{refl}
use Rattle.pb_part_takers.proofs.HeldLoops.{ids_step, held_step, fit_step, fit_at, ids_end, held_end}
use Rattle.pb_part_takers.proofs.held.with_loop.Goals as goal

pub loop-h-preserved : goal.loop-h-preserved
loop-h-preserved c = record {
  ids = ids_step c.args.held.now c.loop-h.h-index c.loop-h.list.items c.push-in-loop-h.new.self.items c.h-item.result _ _ c.loop-h-test.true c.h-item.is refl c.in_ok-push-2.ensures.items c.loop-h.invariant.ids;
  held = λ n role x. held_step c.args.held.now c.loop-h.h-index c.loop-h.list.items c.push-in-loop-h.new.self.items c.h-item.result _ n role x _ c.loop-h-test.true c.h-item.is
      c.in_ok-areas-2.ensures.cases c.in_ok-push-2.ensures.items (c.loop-h.invariant.held n role x);
  fits = λ range cuts f g. fit_step range cuts c.loop-h.list.items c.push-in-loop-h.new.self.items c.h-item.result _ c.in_ok-areas-2.ensures.cases c.in_ok-push-2.ensures.items (c.loop-h.invariant.fits range cuts f g)
      (fit_at range cuts c.args.held.now c.loop-h.h-index c.h-item.result c.loop-h-test.true c.h-item.is g);
}

pub returns : goal.returns
returns c = record {
  ids = ids_end c.args.held.now c.loop-h.h-index c.loop-h.list.items _ c.loop-h-test.false c.loop-h.invariant.ids;
  held = λ n role x. held_end c.args.held.now c.loop-h.h-index c.loop-h.list.items n role x _ c.loop-h-test.false (c.loop-h.invariant.held n role x);
  fits = c.loop-h.invariant.fits;
}
