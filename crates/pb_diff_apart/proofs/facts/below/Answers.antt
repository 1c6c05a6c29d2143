use Rattle.std.proofs.Common.{◌+ℤ◌, ◌≤ℤ◌, pos, arith, SFits, w64, to_z-of_z}
use Rattle.std.proofs.lemmas.Int.{ints}
use Rattle.pb_diff_apart.specs.Terms.{term_value}
use Rattle.pb_diff_apart.specs.Adding.{Adds}
use Rattle.pb_diff_apart.proofs.Steps.{adds_same}
use Rattle.pb_diff_apart.proofs.Meanings.{below_same}
use Rattle.pb_diff_apart.proofs.facts.below.Goals as goal

pub returns : goal.returns
returns c =
    let t = c.term_of-term.result in
    let fits : SFits w64 c.term_of-term.result.offset = omega (arith, ints, c.term_of-term.ensures.term.near.low, c.term_of-term.ensures.term.near.high) in
    let next_fits : SFits w64 (c.term_of-term.result.offset +ℤ pos 1) = omega (arith, ints, c.term_of-term.ensures.term.near.low, c.term_of-term.ensures.term.near.high) in
    let adds : Adds c.args.system.now c.at_most.new.system 1 (λ s. (s t.variable +ℤ (t.offset +ℤ pos 1)) ≤ℤ term_value c.term_of.result s) = simp to_z-of_z at c.at_most.ensures.adds in
    adds_same c.args.system.now c.at_most.new.system 1 _ _ (below_same c.args.p c.args.q t c.term_of.result c.term_of-term.ensures.is c.term_of.ensures.is) adds
