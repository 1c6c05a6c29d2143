use Rattle.std.proofs.Common.{length, get_or, ap, subst, ◌∙◌, slice_index_or}
use Rattle.pb_judge_lists.specs.Places.{left_of, Begins}
use Rattle.pb_judge_lists.proofs.Linking.{got_or}
use Rattle.pb_judge_lists.proofs.Passes.{begins}
use Rattle.pb_judge_lists.proofs.lists.Lists.first.Goals as goal

pub returns-then-at-self : goal.returns-then-at-self
returns-then-at-self c =
    let e = slice_index_or c.self.inside.log.now c.place_at-at.result c.index-self-at.result in
    subst (λ p. Begins ((left_of p).entries c.args.rank) e) c.self.view_is
    (begins _ c.self.invariant c.args.rank c.place_at-at.result (c.place_at-at.ensures ∙ ap (λ l. get_or l c.args.rank (length c.self.inside.log.now)) c.deref.ensures.value) e (got_or c.self.inside.log.now c.place_at-at.result c.index-self-at.result c.if-at-self.true))
