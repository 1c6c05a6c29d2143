use Rattle.std.proofs.Common.{◌≡◌, ◌≢◌, rules, ℕ, ◌<◌, ◌≤◌, ◌<ℤ◌, ◌≤ℤ◌, length, arith, SFits, w64, to_z-of_z, ◌⊎◌, subst}
use Rattle.std.specs.List.{insert}
use Rattle.pb_cases.specs.Numbers.{nth}
use Rattle.pb_cases.proofs.Covering.{raised_span, inserted_span}
use Rattle.pb_cases.proofs.Sorted.{read_is}
use Rattle.pb_cases.proofs.spans.add_span.Goals as goal

pub returns-then-is_at : goal.returns-then-is_at
returns-then-is_at c =
    let lows = c.args.lows.now.items in
    let highs = c.args.highs.now.items in
    let low = c.args.low in
    let i = c.place_of-i.result in
    let fits : SFits w64 c.args.low = c.ranges.low in
    let high_fits : SFits w64 c.args.high = c.ranges.high in
    let top_fits : SFits w64 c.higher-top.result = search rules in
    let here : (i < length lows) × (nth lows i ≡ low) = simp (to_z-of_z, c.deref-2.ensures.value) at (c.is_at.ensures.yes c.if-is_at.true) in
    let in_highs : i < length highs = omega (arith, here.0, c.requires.same) in
    let own : c.index.result.now ≡ nth highs i = read_is highs i c.index.result.now in_highs c.index.ensures in
    let own_fits : SFits w64 c.index.result.now = search rules in
    let a : c.index.result.now ≤ℤ c.higher-top.result = simp to_z-of_z at c.higher-top.ensures.a in
    let b : c.args.high ≤ℤ c.higher-top.result = simp to_z-of_z at c.higher-top.ensures.b in
    let e : (c.higher-top.result ≡ c.index.result.now) ⊎ (c.higher-top.result ≡ c.args.high) = simp to_z-of_z at c.higher-top.ensures.either in
    let le : nth highs i ≤ℤ c.higher-top.result = subst (λ z. z ≤ℤ c.higher-top.result) own a in
    let either : (c.higher-top.result ≡ nth highs i) ⊎ (c.higher-top.result ≡ c.args.high) = subst (λ z. (c.higher-top.result ≡ z) ⊎ (c.higher-top.result ≡ c.args.high)) own e in
    simp to_z-of_z (raised_span low c.args.high c.higher-top.result lows highs i c.requires here.0 here.1 le b either)

pub returns : goal.returns
returns c =
    let list = c.args.lows.now.items in
    let low = c.args.low in
    let i = c.place_of-i.result in
    let fits : SFits w64 c.args.low = c.ranges.low in
    let high_fits : SFits w64 c.args.high = c.ranges.high in
    let within : i ≤ length list = simp (c.deref.ensures.value) at c.place_of-i.ensures.within in
    let below : (j : ℕ) → j < i → nth list j <ℤ low = simp (to_z-of_z, c.deref.ensures.value) at c.place_of-i.ensures.below in
    let above : (j : ℕ) → i ≤ j → j < length list → low ≤ℤ nth list j = simp (to_z-of_z, c.deref.ensures.value) at c.place_of-i.ensures.above in
    let other : i < length list → nth list i ≢ low = simp (to_z-of_z, c.deref-2.ensures.value) at (c.is_at.ensures.no c.if-is_at.false) in
    let is : c.insert.new.self.items ≡ insert list i low = simp to_z-of_z at c.in_ok-insert.ensures.items in
    let is_high : c.insert-2.new.self.items ≡ insert c.args.highs.now.items i c.args.high = simp to_z-of_z at c.in_ok-insert-2.ensures.items in
    inserted_span low c.args.high list c.args.highs.now.items c.insert.new.self.items c.insert-2.new.self.items i c.requires within below above other is is_high
