use Rattle.std.proofs.Common.{to_z-of_z, SFits, w64, arith}
use Rattle.std.proofs.lemmas.Int.{ints}
use Rattle.pb_plain.proofs.Ranges.{each_turns}
use Rattle.pb_plain.proofs.numbers.turns.Goals as goal

pub returns-clause-turns : goal.returns-clause-turns
returns-clause-turns c =
    let first : SFits w64 c.bound-first.result = omega (arith, ints, c.bound-first.ensures.turn.low, c.bound-first.ensures.turn.high) in
    let last : SFits w64 c.bound-last.result = omega (arith, ints, c.bound-last.ensures.turn.low, c.bound-last.ensures.turn.high) in
    each_turns c.range.result c.bound-first.result c.bound-last.result _ _ (to_z-of_z first) (to_z-of_z last) c.bound-first.ensures.turn c.bound-last.ensures.turn c.range.ensures
