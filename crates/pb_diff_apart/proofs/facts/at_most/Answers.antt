use Rattle.std.proofs.Common.{◌≡◌, ◌-ℤ◌, refl, arith, SFits, w64, to_z-of_z}
use Rattle.std.proofs.lemmas.Int.{ints}
use Rattle.pb_diff.specs.Systems.{with_constraint}
use Rattle.pb_diff_apart.proofs.Steps.{adds_one, pair_one, order_of}
use Rattle.pb_diff_apart.proofs.facts.at_most.Goals as goal

pub returns-clause-adds : goal.returns-clause-adds
returns-clause-adds c =
    let x = c.args.x in
    let y = c.args.y in
    let x_fits : SFits w64 c.args.x.offset = omega (arith, ints, c.requires.x.near.low, c.requires.x.near.high) in
    let y_fits : SFits w64 c.args.y.offset = omega (arith, ints, c.requires.y.near.low, c.requires.y.near.high) in
    let fits : SFits w64 (c.args.y.offset -ℤ c.args.x.offset) = omega (arith, ints, c.requires.x.near.low, c.requires.x.near.high, c.requires.y.near.low, c.requires.y.near.high) in
    let is : c.bound.new.self ≡ record { vars = c.args.system.now.vars; list = with_constraint (order_of x y (y.offset -ℤ x.offset)) c.args.system.now.list } = simp to_z-of_z at c.bound.ensures in
    adds_one c.args.system.now c.bound.new.self x y (y.offset -ℤ x.offset) refl is

pub returns-clause-pair : goal.returns-clause-pair
returns-clause-pair c = pair_one c.args.system.now c.bound.new.self c.args.x c.args.y _ c.bound.ensures
