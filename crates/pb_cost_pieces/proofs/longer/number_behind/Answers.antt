use Rattle.std.proofs.Common.{◌∙◌, refl, pos, ◌≤ℤ◌, arith, to_z-of_z}
use Rattle.std.proofs.lemmas.Int.{ints}
use Rattle.pb_cost_pieces.proofs.Words.{next_word}
use Rattle.pb_cost_pieces.proofs.Extend.{number_follows}
use Rattle.pb_cost_pieces.proofs.longer.number_behind.Goals as goal

pub returns : goal.returns
returns c =
    let from_low = c.args.latest.now.from_low in
    let to_low = c.args.latest.now.to_low in
    let low : pos 0 ≤ℤ c.args.latest.now.to = omega (arith, ints, from_low, to_low) in
    let to_is = next_word c.args.latest.now.to low c.args.latest.now.to_high in
    number_follows c.args.latest.now c.new.result c.args.value (c.new.ensures.from ∙ to_is) (c.new.ensures.to ∙ to_is) (c.new.ensures.start ∙ to_z-of_z c.ranges.value) (c.new.ensures.single refl)
