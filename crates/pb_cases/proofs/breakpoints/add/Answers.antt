use Rattle.std.proofs.Common.{◌≡◌, ◌≢◌, rules, ℕ, ◌<◌, ◌≤◌, ◌<ℤ◌, ◌≤ℤ◌, length, SFits, w64, to_z-of_z}
use Rattle.std.specs.List.{insert}
use Rattle.pb_cases.specs.Numbers.{nth}
use Rattle.pb_cases.specs.Breakpoints.{IsInRange}
use Rattle.pb_cases.proofs.Sorted.{inserted}
use Rattle.pb_cases.proofs.breakpoints.add.Goals as goal

pub returns : goal.returns
returns c =
    let list = c.args.list.now.items in
    let m = c.args.m in
    let i = c.place_of-i.result in
    let fits : SFits w64 c.args.m = c.ranges.m in
    let in_range : IsInRange c.args.range m = search (rules, c.if-not-is_in_range.ensures) in
    let within : i ≤ length list = simp (c.deref-2.ensures.value) at c.place_of-i.ensures.within in
    let below : (j : ℕ) → j < i → nth list j <ℤ m = simp (to_z-of_z, c.deref-2.ensures.value) at c.place_of-i.ensures.below in
    let above : (j : ℕ) → i ≤ j → j < length list → m ≤ℤ nth list j = simp (to_z-of_z, c.deref-2.ensures.value) at c.place_of-i.ensures.above in
    let other : i < length list → nth list i ≢ m = simp (to_z-of_z, c.deref-3.ensures.value) at (c.is_at-2.ensures.no c.if-is_at-2.false) in
    let is : c.insert.new.self.items ≡ insert list i m = simp to_z-of_z at c.in_ok-insert.ensures.items in
    inserted c.args.range m list c.insert.new.self.items i c.requires in_range within below above other is
