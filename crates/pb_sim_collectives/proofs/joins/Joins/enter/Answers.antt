use Rattle.std.proofs.Common.{◌∙◌, ℕ, List, ap, sym, subst, rules}
use Rattle.pb_sim_collectives.specs.Rounds.{with_one}
use Rattle.pb_sim_collectives.specs.Joined.{entered}
use Rattle.pb_sim_collectives.specs.Lists.{items_of}
use Rattle.pb_sim_collectives.specs.Results.{AreResults}
use Rattle.pb_sim_collectives.proofs.Entering.{few_then, seen_then, shown_then}
use Rattle.pb_sim_collectives.proofs.Gathering.{results_then}
use Rattle.pb_sim_collectives.proofs.Forgetting.{kept_then, some_then}
use Rattle.pb_sim_collectives.proofs.joins.Joins.enter.Goals as goal

pub count-requires-clause-few : goal.count-requires-clause-few
count-requires-clause-few c = rw c.reserve.ensures.same (few_then c.self.inside.rounds c.self.inside.lists c.self.inside.total c.number-k.result c.self.invariant.0 (search rules))

pub gather-requires : goal.gather-requires
gather-requires c = some_then c.self.inside.lists c.push.new.self c.args.rank c.args.words (rw (← c.self.view_is) at c.requires) c.in_ok-push.ensures.ok

pub invariant_of-self-2 : goal.invariant_of-self-2
invariant_of-self-2 c = (
  seen_then c.self.inside.rounds c.count.new.self c.self.inside.lists c.push.new.self c.self.inside.total c.args.rank c.number-k.result c.args.call c.args.words c.self.invariant.0
      (rw (← c.self.view_is) at c.requires) c.number-k.ensures
      (c.count.ensures ∙ ap (λ xs. with_one xs c.number-k.result c.args.call) c.reserve.ensures.same) c.in_ok-push.ensures.ok,
  subst (λ (lists : List (List (List ℕ))). AreResults lists c.self.inside.results.last) (sym c.in_ok-push.ensures.ok)
      (results_then (items_of c.self.inside.lists) c.args.rank c.args.words (rw (← c.self.view_is) at c.requires) c.self.inside.results.last c.self.invariant.1),
  kept_then c.self.inside.lists c.push.new.self c.args.rank c.args.words (rw (← c.self.view_is) at c.requires) c.in_ok-push.ensures.ok c.push.ensures.starts c.self.invariant.2,
)

pub returns-clause-ok : goal.returns-clause-ok
returns-clause-ok c =
    c.gather.ensures ∙ shown_then c.self.inside.rounds c.count.new.self c.self.inside.lists c.push.new.self c.args.rank c.number-k.result c.args.call c.args.words
    c.number-k.ensures (c.count.ensures ∙ ap (λ xs. with_one xs c.number-k.result c.args.call) c.reserve.ensures.same) c.in_ok-push.ensures.ok
    ∙ ap (λ x. entered x c.args.rank c.args.call c.args.words) c.self.view_is
