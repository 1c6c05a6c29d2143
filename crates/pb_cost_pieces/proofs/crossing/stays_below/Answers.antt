use Rattle.std.proofs.Common.{rules, ◌-ℤ◌, arith, SFits, w64, to_z-of_z}
use Rattle.std.proofs.lemmas.Int.{ints}
use Rattle.pb_cost_pieces.specs.Joined.{Lasts}
use Rattle.pb_cost_pieces.proofs.Crossings.{stays_below}
use Rattle.pb_cost_pieces.proofs.crossing.stays_below.Goals as goal

pub returns : goal.returns
returns c =
    let ls : SFits w64 c.args.lower.start = search rules in
    let us : SFits w64 c.args.upper.start = search rules in
    let lp : SFits w64 c.args.lower.slope = search rules in
    let up : SFits w64 c.args.upper.slope = search rules in
    let a = c.args.lower.start_low in
    let b = c.args.lower.start_high in
    let d = c.args.upper.start_low in
    let e = c.args.upper.start_high in
    let starts : SFits w64 (c.args.upper.start -ℤ c.args.lower.start) = omega (arith, ints, a, b, d, e) in
    let f = c.args.lower.slope_low in
    let g = c.args.lower.slope_high in
    let h = c.args.upper.slope_low in
    let i = c.args.upper.slope_high in
    let slopes : SFits w64 (c.args.upper.slope -ℤ c.args.lower.slope) = omega (arith, ints, f, g, h, i) in
    let is : Lasts c.lasts.result (c.args.upper.start -ℤ c.args.lower.start) (c.args.upper.slope -ℤ c.args.lower.slope) = simp to_z-of_z at c.lasts.ensures in
    stays_below c.lasts.result c.args.lower c.args.upper is
