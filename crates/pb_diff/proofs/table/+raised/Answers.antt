use Rattle.std.proofs.Common.{◌≡◌, ◌+◌, ◌-◌, ◌*◌, ◌<◌, ◌^◌, Some, subst, arith}
use Rattle.std.proofs.lemmas.Int.{ints}
use Rattle.pb_diff.specs.Tables.{IsWithinIf, cell}
use Rattle.pb_diff.specs.Systems.{IsWithin, number}
use Rattle.pb_diff.proofs.Elimination.{above_step, met_here}
use Rattle.pb_diff.proofs.table.+raised.Goals as goal

pub returns-then-rest-own-clause-above : goal.returns-then-rest-own-clause-above
returns-then-rest-own-clause-above t c =
    let end = c.args.count - 1 in
    let e : c.args.count ≡ end + 1 = omega arith in
    let j : 6 * end + c.args.last < 36 = omega arith in
    let bound : cell c.args.table.now end c.args.last ≡ Some c.in-Some.c = c.in-Some.is in
    let near : IsWithin (2 ^ 45) c.in-Some.c = subst (λ o. IsWithinIf (2 ^ 45) o) bound (c.requires.near.cells (6 * end + c.args.last) j) in
    let close : IsWithin (2 ^ 45) (number c.args.numbers.now end) = c.requires.close end in
    above_step _ _ _ _ end c.in-Some.c c.raised-rest.result _ e bound c.raised-rest.ensures.above (omega (arith, ints)) (omega (arith, ints))

pub returns-then-rest-own-clause-met : goal.returns-then-rest-own-clause-met
returns-then-rest-own-clause-met t c =
    let end = c.args.count - 1 in
    let e : c.args.count ≡ end + 1 = omega arith in
    let j : 6 * end + c.args.last < 36 = omega arith in
    let bound : cell c.args.table.now end c.args.last ≡ Some c.in-Some.c = c.in-Some.is in
    let near : IsWithin (2 ^ 45) c.in-Some.c = subst (λ o. IsWithinIf (2 ^ 45) o) bound (c.requires.near.cells (6 * end + c.args.last) j) in
    let close : IsWithin (2 ^ 45) (number c.args.numbers.now end) = c.requires.close end in
    met_here _ _ _ _ end c.in-Some.c _ e bound (omega (arith, ints))

pub returns-else-rest-own-clause-above : goal.returns-else-rest-own-clause-above
returns-else-rest-own-clause-above t c =
    let end = c.args.count - 1 in
    let e : c.args.count ≡ end + 1 = omega arith in
    let j : 6 * end + c.args.last < 36 = omega arith in
    let bound : cell c.args.table.now end c.args.last ≡ Some c.in-Some.c = c.in-Some.is in
    let near : IsWithin (2 ^ 45) c.in-Some.c = subst (λ o. IsWithinIf (2 ^ 45) o) bound (c.requires.near.cells (6 * end + c.args.last) j) in
    let close : IsWithin (2 ^ 45) (number c.args.numbers.now end) = c.requires.close end in
    above_step _ _ _ _ end c.in-Some.c c.raised-rest.result _ e bound c.raised-rest.ensures.above (omega (arith, ints)) (omega (arith, ints))
