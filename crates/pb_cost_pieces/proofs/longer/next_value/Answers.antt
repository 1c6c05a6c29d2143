use Rattle.std.proofs.Common.{rules, ◌≡◌, arith, SFits, w64, to_z-of_z}
use Rattle.std.proofs.lemmas.Int.{ints}
use Rattle.pb_cost_pieces.specs.Lines.{value_at}
use Rattle.pb_cost_pieces.proofs.longer.next_value.Goals as goal

pub returns : goal.returns
returns c =
    let to_fits : SFits w64 c.args.latest.now.to = search rules in
    let e : c.value.result ≡ value_at c.args.latest.now c.args.latest.now.to = simp to_z-of_z at c.value.ensures in
    let low = c.requires.low in
    let high = c.requires.high in
    let slope_low = c.requires.slope_low in
    let slope_high = c.requires.slope_high in
    let fits : SFits w64 c.value.result = search rules in
    let slope_fits = c.ranges.slope in
    omega (arith, ints, e, low, high, slope_low, slope_high, fits, slope_fits)
