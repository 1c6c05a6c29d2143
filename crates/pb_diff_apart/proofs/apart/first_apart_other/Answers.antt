use Rattle.std.proofs.Common.{sym, subst}
use Rattle.pb_affine.specs.declared.guard.Guard.{Guard}
use Rattle.pb_diff_apart.specs.Apart.{is_apart, is_apart_other, under, over}
use Rattle.pb_diff_apart.proofs.Least.{IsAnswer, other_union, lesser_answers}
use Rattle.pb_diff_apart.proofs.apart.first_apart_other.Goals as goal

pub returns : goal.returns
returns c =
    let g = c.args.g.now in
    let but = c.args.but in
    let p = c.args.p in
    let q = c.args.q in
    let less : IsAnswer c.args.range (is_apart g (under g but) p q) c.first_apart-less.result = subst (λ (h : Guard). IsAnswer c.args.range (is_apart g h p q) c.first_apart-less.result) c.guard_under-under.ensures.is c.first_apart-less.ensures in
    let more : IsAnswer c.args.range (is_apart g (over g but) p q) c.first_apart-more.result = subst (λ (h : Guard). IsAnswer c.args.range (is_apart g h p q) c.first_apart-more.result) c.guard_over-over.ensures.is c.first_apart-more.ensures in
    subst (λ o. IsAnswer c.args.range (is_apart_other g but p q) o) (sym c.lesser.ensures)
    (lesser_answers c.args.range g.role (is_apart g (under g but) p q) (is_apart g (over g but) p q) (is_apart_other g but p q) c.first_apart-less.result c.first_apart-more.result (other_union g but p q) less more)
