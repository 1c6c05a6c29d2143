use Rattle.std.proofs.Common.{ℕ, ◌<◌, ◌≤◌, ◌-◌, ◌<ℤ◌, ◌≤ℤ◌, ◌+ℤ◌, IsTrue, length, pos, arith, SFits, w64, to_z-of_z}
use Rattle.std.proofs.lemmas.Int.{ints}
use Rattle.pb_cases.specs.Numbers.{nth}
use Rattle.pb_cases.proofs.Covering.{covered_is}
use Rattle.pb_cases.proofs.cover.Cover.has.Goals as goal

pub returns : goal.returns
returns c =
    let x = c.args.index in
    let p = c.place_of-p.result in
    let lows = c.args.self.now.lows.items in
    let highs = c.args.self.now.highs.items in
    let tops = c.args.self.now.tops.items in
    let fits : SFits w64 c.args.index = c.ranges.index in
    let next_fits : SFits w64 (c.args.index +ℤ pos 1) = omega (arith, ints, c.requires.near) in
    let some : 0 < p = omega (arith, c.if-p-eq0.false) in
    let within : p ≤ length lows = simp (c.deref.ensures.value) at c.place_of-p.ensures.within in
    let below : (j : ℕ) → j < p → nth lows j <ℤ (x +ℤ pos 1) = simp (to_z-of_z, c.deref.ensures.value) at c.place_of-p.ensures.below in
    let above : (j : ℕ) → p ≤ j → j < length lows → (x +ℤ pos 1) ≤ℤ nth lows j = simp (to_z-of_z, c.deref.ensures.value) at c.place_of-p.ensures.above in
    let both = covered_is lows highs tops x p c.requires.spans c.requires.tops some within below above in
    let test : (IsTrue c.is_up_to_top.result → x ≤ℤ nth tops (p - 1)) × (x ≤ℤ nth tops (p - 1) → IsTrue c.is_up_to_top.result) = simp (to_z-of_z, c.deref-2.ensures.value) at c.is_up_to_top.ensures in
    (λ h. both.0 (test.0 h), λ h. test.1 (both.1 h))
