use Rattle.std.proofs.Common.{rules, ◌∙◌, ◌<ℤ◌, arith, SFits, w64, to_z-of_z}
use Rattle.std.proofs.lemmas.Int.{ints}
use Rattle.pb_cost_pieces.proofs.Words.{less_word}
use Rattle.pb_cost_pieces.proofs.Extend.{next_extends}
use Rattle.pb_cost_pieces.proofs.longer.first_line.Goals as goal

pub returns : goal.returns
returns c =
    let from_fits : SFits w64 c.args.latest.now.from = search rules in
    let start_fits : SFits w64 c.args.latest.now.start = search rules in
    let beyond = c.requires.more in
    let single = c.requires.single in
    let less : c.args.latest.now.from <ℤ c.args.to = omega (arith, ints, beyond, single) in
    next_extends c.args.latest.now c.new.result c.args.to c.args.slope single beyond
    (c.new.ensures.from ∙ to_z-of_z from_fits)
    (c.new.ensures.to ∙ to_z-of_z c.ranges.to)
    (c.new.ensures.start ∙ to_z-of_z start_fits)
    (c.new.ensures.slope (less_word c.args.latest.now.from c.args.to from_fits c.ranges.to less) ∙ to_z-of_z c.ranges.slope)
