use Rattle.std.proofs.Common.{◌≡◌, rules, true, false, arith}
use Rattle.std.proofs.lemmas.Int.{ints}
use Rattle.pb_part_areas.specs.Areas.{is_param}
use Rattle.pb_part_takers.proofs.EndAreas.{some_same, none_same, some_until, some_since, until_edge, since_edge}
use Rattle.pb_part_takers.proofs.each.nonempty.Goals as goal

pub returns-then-over-clause-is : goal.returns-then-over-clause-is
returns-then-over-clause-is c = λ n role x _.
    let same : is_param c.args.over.low.base ≡ is_param c.next_to-end.result.base = search rules in
    some_same c.args.a c.args.over c.next_to-end.result c.next_to-end.ensures same (omega (arith, ints)) n role x

pub returns-else-over-clause-is : goal.returns-else-over-clause-is
returns-else-over-clause-is c = λ n role x _.
    let same : is_param c.args.over.low.base ≡ is_param c.next_to-end.result.base = search rules in
    none_same c.args.a c.nowhere.result c.args.over c.next_to-end.result c.next_to-end.ensures same (omega (arith, ints)) c.nowhere.ensures.is n role x

pub returns-else-over-clause-fits : goal.returns-else-over-clause-fits
returns-else-over-clause-fits c = λ range cuts _ f _ _. c.nowhere.ensures.fits range cuts f

pub returns-then-is_param-2-clause-is : goal.returns-then-is_param-2-clause-is
returns-then-is_param-2-clause-is c = some_until c.args.a c.until.result c.args.over c.next_to-end.result _ c.next_to-end.ensures c.until.ensures.is c.meet-t.ensures.is

pub returns-then-is_param-2-clause-fits : goal.returns-then-is_param-2-clause-fits
returns-then-is_param-2-clause-fits c = λ range cuts small f low next.
    c.until.ensures.fits range cuts f (until_edge range cuts c.args.over c.next_to-end.result _ c.next_to-end.ensures small low next (c.meet-t.ensures.edge range cuts))

pub returns-else-is_param-2-clause-is : goal.returns-else-is_param-2-clause-is
returns-else-is_param-2-clause-is c = λ n role x _. some_since c.args.a c.since.result c.args.over _ c.since.ensures.is c.meet-t-else-is_param-2.ensures.is n role x

pub returns-else-is_param-2-clause-fits : goal.returns-else-is_param-2-clause-fits
returns-else-is_param-2-clause-fits c = λ range cuts small f low next.
    let still : is_param c.args.over.low.base ≡ false = search rules in
    let grows : is_param c.args.over.high.base ≡ true = search rules in
    c.since.ensures.fits range cuts f (since_edge range cuts c.args.over _ still grows low next c.meet-t-else-is_param-2.ensures.value)
