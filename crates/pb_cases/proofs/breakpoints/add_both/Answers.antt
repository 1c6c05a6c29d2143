use Rattle.std.proofs.Common.{◌+ℤ◌, pos, arith, SFits, w64, to_z-of_z}
use Rattle.std.proofs.lemmas.Int.{ints}
use Rattle.pb_cases.specs.Building.{IsAdded}
use Rattle.pb_cases.proofs.Built.{added_twice}
use Rattle.pb_cases.proofs.breakpoints.add_both.Goals as goal

pub returns : goal.returns
returns c =
    let fits : SFits w64 c.args.m = c.ranges.m in
    let next_fits : SFits w64 (c.args.m +ℤ pos 1) = omega (arith, ints, c.requires.near.high) in
    let p : IsAdded c.args.range c.args.m c.args.list.now.items c.add.new.list.items = simp to_z-of_z at c.in_ok-add.ensures in
    let q : IsAdded c.args.range (c.args.m +ℤ pos 1) c.add.new.list.items c.add-2.new.list.items = simp to_z-of_z at c.in_ok-add-2.ensures in
    added_twice c.args.range c.args.m c.args.list.now.items c.add.new.list.items c.add-2.new.list.items p q
