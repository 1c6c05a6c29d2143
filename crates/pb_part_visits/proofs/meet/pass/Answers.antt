use Rattle.std.proofs.Common.{◌≤ℤ◌, arith}
use Rattle.std.proofs.lemmas.Int.{ints}
use Rattle.pb_part_areas.proofs.Meets.{zero_edge}
use Rattle.pb_part_visits.proofs.Meets.{passed_at_once, passed_later, pass_edge, gap_number}
use Rattle.pb_part_visits.proofs.meet.pass.Goals as goal

pub returns-then-fixed-param-clause-is : goal.returns-then-fixed-param-clause-is
returns-then-fixed-param-clause-is c = λ a b n. passed_at_once c.args.fixed c.args.param c.requires.still c.requires.grows (omega (arith, ints)) n

pub returns-then-fixed-param-clause-edge : goal.returns-then-fixed-param-clause-edge
returns-then-fixed-param-clause-edge c = λ a b range cuts f p. zero_edge range cuts

pub returns-else-fixed-param-clause-is : goal.returns-else-fixed-param-clause-is
returns-else-fixed-param-clause-is c = λ a b n.
    let lower : c.args.param.off ≤ℤ c.args.fixed.off = omega (arith, ints) in
    passed_later c.args.fixed c.args.param _ c.requires.still c.requires.grows (gap_number c.args.fixed.off c.args.param.off _ a b lower c.gap.ensures) n

pub returns-else-fixed-param-clause-edge : goal.returns-else-fixed-param-clause-edge
returns-else-fixed-param-clause-edge c = λ a b range cuts f p.
    let lower : c.args.param.off ≤ℤ c.args.fixed.off = omega (arith, ints) in
    pass_edge range cuts c.args.fixed c.args.param _ f p c.requires.still c.requires.grows (gap_number c.args.fixed.off c.args.param.off _ a b lower c.gap.ensures)
