use Rattle.std.proofs.Common.{◌≡◌, length, map, arith}
use Rattle.std.proofs.lemmas.List.{get_or_read}
use Rattle.pb_do_faults.specs.Found.{body_calls}
use Rattle.pb_do_faults.proofs.Searches.{at_first, one_more, found, none, most, as_many}
use Rattle.pb_do_faults.proofs.searching.reaches.Goals as goal

pub loop-next-init : goal.loop-next-init
loop-next-init c =
    let size : length c.in_ok-reached.reached.seen.items ≡ length c.args.bodies.now = omega (arith, c.in_ok-reached.ensures.0) in
    record {
      size = omega (arith, c.in_ok-add.ensures.size);
      so_far = at_first (map body_calls c.args.bodies.now) c.args.from c.args.to (length c.in_ok-reached.reached.seen.items) c.in_ok-reached.reached.order.items c.add.new.self.order.items
          (omega (arith, as_many c.args.bodies.now)) c.in_ok-reached.ensures.1 c.in_ok-add.ensures.order;
    }

pub returns-then-next-len : goal.returns-then-next-len
returns-then-next-len c =
    none (map body_calls c.args.bodies.now) c.args.from c.args.to c.loop-next.reached.order.items c.loop-next.next c.loop-next.invariant.so_far
    (omega (arith, c.if-next-len.true, c.len.ensures)) (omega (arith, as_many c.args.bodies.now, c.requires))

pub loop-next-preserved : goal.loop-next-preserved
loop-next-preserved c =
    let size = c.loop-next.invariant.size in
    record {
      size = omega (arith, c.in_ok-visit.ensures.size, size);
      so_far = one_more (map body_calls c.args.bodies.now) c.args.from c.args.to (length c.loop-next.reached.seen.items) c.loop-next.reached.order.items c.visit.new.self.order.items
          c.loop-next.next c.index-at.result.now c.loop-next.invariant.so_far (omega (arith, c.if-next-len.false, c.len.ensures))
          (get_or_read c.loop-next.reached.order.items _ _ (omega (arith, c.if-next-len.false, c.len.ensures)) c.index-at.ensures 0)
          (λ e. omega (arith, c.if-at-to.false, e)) (omega (arith, as_many c.args.bodies.now, size)) c.in_ok-visit.ensures.order;
    }

pub returns : goal.returns
returns c =
    let size = c.loop-next.invariant.size in
    none (map body_calls c.args.bodies.now) c.args.from c.args.to c.loop-next.reached.order.items c.loop-next.next c.loop-next.invariant.so_far
    (omega (arith, size, c.loop-next-test.false, most c.loop-next.reached.seen.items c.loop-next.reached.order.items c.loop-next.reached.kept))
    (omega (arith, as_many c.args.bodies.now, c.requires))

pub returns-then-at-to : goal.returns-then-at-to
returns-then-at-to c =
    found (map body_calls c.args.bodies.now) c.args.from c.args.to c.loop-next.reached.order.items c.loop-next.next c.index-at.result.now c.loop-next.invariant.so_far
    (omega (arith, c.if-next-len.false, c.len.ensures)) (get_or_read c.loop-next.reached.order.items _ _ (omega (arith, c.if-next-len.false, c.len.ensures)) c.index-at.ensures 0)
    (omega (arith, c.if-at-to.true))
