use Rattle.std.proofs.Common.{rules, to_z-of_z, SFits, w64, ◌+ℤ◌, ◌≤ℤ◌, ◌≡◌, ◌++◌, [], ◌∷◌, pos, arith, refl}
use Rattle.std.proofs.lemmas.Int.{ints}
use Rattle.pb_plain.proofs.Ranges.{range_step, range_full}
use Rattle.pb_plain.proofs.numbers.range.Goals as goal

pub loop-x-preserved : goal.loop-x-preserved
loop-x-preserved c =
    let low : SFits w64 c.args.low = c.ranges.low in
    let high : SFits w64 c.args.high = c.ranges.high in
    let fits : SFits w64 (c.loop-x.x +ℤ pos 1) = omega (arith, ints, c.loop-x-test.true) in
    let pushed : c.push.new.self.items ≡ c.loop-x.list.items ++ c.loop-x.x ∷ [] = search (rules, c.in_ok-push.ensures.items, c.loop-x.x-is) in
    let le : c.loop-x.x ≤ℤ c.args.high = omega (arith, ints, c.loop-x-test.true) in
    let before = simp (to_z-of_z, c.loop-x.x-is) at c.loop-x.invariant in
    simp (to_z-of_z, c.loop-x.x-is) (range_step c.loop-x.list.items c.push.new.self.items c.args.low c.args.high c.loop-x.x (c.loop-x.x +ℤ pos 1) refl pushed le before)

pub returns : goal.returns
returns c =
    let low : SFits w64 c.args.low = c.ranges.low in
    let high : SFits w64 c.args.high = c.ranges.high in
    let pushed : c.push-2.new.self.items ≡ c.loop-x.list.items ++ c.loop-x.x ∷ [] = search (rules, c.in_ok-push-2.ensures.items, c.loop-x.x-is) in
    let is : c.loop-x.x ≡ c.args.high = omega (arith, ints, c.loop-x-test.false, c.if-x-high.false) in
    let before = simp (to_z-of_z, c.loop-x.x-is) at c.loop-x.invariant in
    range_full c.loop-x.list.items c.push-2.new.self.items c.args.low c.args.high c.loop-x.x is pushed before
