use Rattle.std.proofs.Common.{length, get_or, ap, ◌∙◌}
use Rattle.pb_judge_follow.specs.Follow.{passed_by}
use Rattle.pb_judge_lists.specs.Places.{left_of}
use Rattle.pb_judge_lists.proofs.Passes.{left_further, kept_further}
use Rattle.pb_judge_lists.proofs.lists.Lists.pass.Goals as goal

pub invariant_of-self : goal.invariant_of-self
invariant_of-self c =
    kept_further _ c.self.invariant c.args.rank c.place_at-at.result (c.place_at-at.ensures ∙ ap (λ l. get_or l c.args.rank (length c.self.inside.log.now)) c.deref.ensures.value) c.place_at.result c.if-at-none.true
    (c.place_at.ensures ∙ ap (λ l. get_or l c.place_at-at.result (length c.self.inside.log.now)) c.deref-then-at-none.ensures.value)

pub returns-then-at-none-clause-left : goal.returns-then-at-none-clause-left
returns-then-at-none-clause-left c =
    left_further _ c.self.invariant c.args.rank c.place_at-at.result (c.place_at-at.ensures ∙ ap (λ l. get_or l c.args.rank (length c.self.inside.log.now)) c.deref.ensures.value) c.place_at.result c.if-at-none.true
    (c.place_at.ensures ∙ ap (λ l. get_or l c.place_at-at.result (length c.self.inside.log.now)) c.deref-then-at-none.ensures.value)
    ∙ ap (λ p. passed_by c.args.rank (left_of p)) c.self.view_is
