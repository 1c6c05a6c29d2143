use Rattle.std.proofs.Common.{sym, subst}
use Rattle.pb_diff_apart.specs.Apart.{is_apart, is_below}
use Rattle.pb_diff_apart.proofs.Least.{IsAnswer, apart_union, lesser_answers, other_role}
use Rattle.pb_diff_apart.proofs.apart.first_apart.Goals as goal

pub returns-in-Some : goal.returns-in-Some
returns-in-Some c =
    let g = c.args.g.now in
    let h = c.args.h.now in
    subst (λ o. IsAnswer c.args.range (is_apart g h c.args.p c.args.q) o) (sym c.lesser.ensures)
    (lesser_answers c.args.range g.role (is_below g h c.args.p c.args.q) (is_below g h c.args.q c.args.p) (is_apart g h c.args.p c.args.q) c.first_below-less.result c.first_below-more.result (apart_union g h c.args.p c.args.q) c.first_below-less.ensures c.first_below-more.ensures)

pub returns-in_default : goal.returns-in_default
returns-in_default c = other_role c.args.range c.args.g.now c.args.h.now c.args.p c.args.q c.if-g-h.false
