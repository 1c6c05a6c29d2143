use Rattle.std.proofs.Common.{rules, ◌∙◌, sym, ap, pos, ◌+ℤ◌, ◌≤ℤ◌, arith, SFits, w64, to_z-of_z}
use Rattle.std.proofs.lemmas.Int.{ints}
use Rattle.pb_cost_pieces.specs.Lines.{value_at}
use Rattle.pb_cost_pieces.proofs.Words.{next_word}
use Rattle.pb_cost_pieces.proofs.Extend.{line_follows}
use Rattle.pb_cost_pieces.proofs.longer.line_behind.Goals as goal

pub returns : goal.returns
returns c =
    let from_low = c.args.latest.now.from_low in
    let to_low = c.args.latest.now.to_low in
    let low : pos 0 ≤ℤ c.args.latest.now.to = omega (arith, ints, from_low, to_low) in
    let to_is = next_word c.args.latest.now.to low c.args.latest.now.to_high in
    let to_fits = c.ranges.to in
    let value_fits : SFits w64 c.next_value-start.result = search rules in
    let slope_fits : SFits w64 c.args.slope = c.ranges.slope in
    let value_is = c.next_value-start.ensures ∙ ap (λ x. value_at c.args.latest.now c.args.latest.now.to +ℤ x) (to_z-of_z slope_fits) in
    line_follows c.args.latest.now c.new.result c.args.to c.args.slope
    (c.new.ensures.from ∙ to_is)
    (c.new.ensures.to ∙ to_z-of_z to_fits)
    (c.new.ensures.start ∙ to_z-of_z value_fits ∙ value_is)
    c.requires.more
    (λ e. c.new.ensures.single (to_is ∙ e ∙ sym (to_z-of_z to_fits)))
    (λ lt. c.new.ensures.slope (omega (arith, ints, to_is, lt, to_fits)) ∙ to_z-of_z slope_fits)
