use Rattle.std.proofs.Common.{rules, ◌∙◌, sym, pos, ◌+ℤ◌, ◌-ℤ◌, ◌≤ℤ◌, ◌<ℤ◌, arith, SFits, w64, to_z, of_z, to_z-of_z}
use Rattle.std.proofs.lemmas.Int.{ints}
use Rattle.pb_cost_pieces.proofs.Words.{next_word, difference_word}
use Rattle.pb_cost_pieces.proofs.Build.{at_first}
use Rattle.pb_cost_pieces.proofs.Extend.{second_extends}
use Rattle.pb_cost_pieces.proofs.longer.second.Goals as goal

pub overflow_sub-value : goal.overflow_sub-value
overflow_sub-value c =
    let here = at_first c.args.latest.now c.args.latest.now.to (sym c.requires.single) in
    let up = c.requires.step.up in
    let down = c.requires.step.down in
    let low = c.args.latest.now.start_low in
    let high = c.args.latest.now.start_high in
    let fits = c.ranges.value in
    omega (arith, ints, here, up, down, low, high, fits)

pub new-requires-clause-slope_low : goal.new-requires-clause-slope_low
new-requires-clause-slope_low c = λ _.
    let here = at_first c.args.latest.now c.args.latest.now.to (sym c.requires.single) in
    let up = c.requires.step.up in
    let down = c.requires.step.down in
    let low = c.args.latest.now.start_low in
    let high = c.args.latest.now.start_high in
    let fits = c.ranges.value in
    omega (arith, ints, here, up, down, low, high, fits)

pub new-requires-clause-slope_high : goal.new-requires-clause-slope_high
new-requires-clause-slope_high c = λ _.
    let here = at_first c.args.latest.now c.args.latest.now.to (sym c.requires.single) in
    let up = c.requires.step.up in
    let down = c.requires.step.down in
    let low = c.args.latest.now.start_low in
    let high = c.args.latest.now.start_high in
    let fits = c.ranges.value in
    omega (arith, ints, here, up, down, low, high, fits)

pub returns : goal.returns
returns c =
    let here = at_first c.args.latest.now c.args.latest.now.to (sym c.requires.single) in
    let up = c.requires.step.up in
    let down = c.requires.step.down in
    let low = c.args.latest.now.start_low in
    let high = c.args.latest.now.start_high in
    let single = c.requires.single in
    let from_low = c.args.latest.now.from_low in
    let to_low = c.args.latest.now.to_low in
    let to_high = c.args.latest.now.to_high in
    let from_fits : SFits w64 c.args.latest.now.from = search rules in
    let start_fits : SFits w64 c.args.latest.now.start = search rules in
    let slope_fits : SFits w64 (c.args.value -ℤ c.args.latest.now.start) = omega (arith, ints, here, up, down, low, high) in
    let low_to : pos 0 ≤ℤ c.args.latest.now.to = omega (arith, ints, from_low, to_low) in
    let to_is = next_word c.args.latest.now.to low_to to_high in
    let less : to_z w64 (of_z w64 c.args.latest.now.from) <ℤ to_z w64 (of_z w64 (to_z w64 (of_z w64 c.args.latest.now.to) +ℤ pos 1)) = omega (arith, ints, to_is, single, from_low, to_low, to_high) in
    second_extends c.args.latest.now c.new.result c.args.value single
    (c.new.ensures.from ∙ to_z-of_z from_fits)
    (c.new.ensures.to ∙ to_is)
    (c.new.ensures.start ∙ to_z-of_z start_fits)
    (c.new.ensures.slope less ∙ difference_word c.args.value c.args.latest.now.start c.ranges.value start_fits slope_fits)
