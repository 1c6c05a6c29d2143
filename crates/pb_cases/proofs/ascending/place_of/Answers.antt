use Rattle.std.proofs.Common.{◌<◌, ◌+◌, ◌-◌, ◌/◌, length, arith}
use Rattle.std.proofs.lemmas.Int.{ints}
use Rattle.pb_cases.proofs.Sorted.{place_up, place_down}
use Rattle.pb_cases.proofs.ascending.place_of.Goals as goal

pub loop-low-preserved-then-list-mid : goal.loop-low-preserved-then-list-mid
loop-low-preserved-then-list-mid c =
    let mid = c.loop-low.low + (c.loop-low.high - c.loop-low.low) / 2 in
    let lt : mid < length c.args.list.now = omega (arith, c.loop-low.invariant.within) in
    record {
      within = c.loop-low.invariant.within;
      order = omega (arith, c.loop-low.invariant.order);
      below = place_up c.args.list.now _ mid c.requires lt (omega (arith, ints, c.if-list-mid.true));
      above = c.loop-low.invariant.above;
    }

pub loop-low-preserved : goal.loop-low-preserved
loop-low-preserved c =
    let mid = c.loop-low.low + (c.loop-low.high - c.loop-low.low) / 2 in
    record {
      within = omega (arith, c.loop-low.invariant.within);
      order = omega (arith, c.loop-low.invariant.order);
      below = c.loop-low.invariant.below;
      above = place_down c.args.list.now _ mid c.requires (omega (arith, ints, c.if-list-mid.false));
    }
