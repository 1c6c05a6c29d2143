use Rattle.std.proofs.Common.{◌≡◌, rules, ◌<◌, ◌-◌, ◌++◌, [], ◌∷◌, ◌≤ℤ◌, ◌⊎◌, length, refl, SFits, w64, to_z-of_z}
use Rattle.pb_cases.specs.Numbers.{nth}
use Rattle.pb_cases.proofs.Covering.{tops_step}
use Rattle.pb_cases.proofs.spans.tops_of.Goals as goal

pub loop-high-preserved : goal.loop-high-preserved
loop-high-preserved c =
    let tops = c.loop-high.tops.items in
    let i = c.loop-high.high-index in
    let top = c.next_top-top.result in
    let high = nth c.args.highs.now i in
    let fits : SFits w64 top = search rules in
    let high_fits : SFits w64 (nth c.args.highs.now i) = search rules in
    let own : high ≤ℤ top = simp (to_z-of_z) at c.next_top-top.ensures.own in
    let over : 0 < length tops → nth tops (length tops - 1) ≤ℤ top = simp (c.deref.ensures.value) at c.next_top-top.ensures.over in
    let among : (top ≡ high) ⊎ ((0 < length tops) × (top ≡ nth tops (length tops - 1))) = simp (to_z-of_z, c.deref.ensures.value) at c.next_top-top.ensures.among in
    let is : c.push.new.self.items ≡ tops ++ top ∷ [] = simp to_z-of_z at c.in_ok-push.ensures.items in
    tops_step c.args.highs.now tops c.push.new.self.items i high top refl own over among is c.loop-high.invariant
