use Rattle.std.proofs.Common.{◌≡◌, ◌<◌, ◌∙◌, ◌-◌, ℕ, List, [], length, get_or, refl, ap, sym, subst, arith}
use Rattle.pb_sim_collectives.specs.Joined.{number, all_entered}
use Rattle.pb_sim_collectives.specs.Lists.{items_of}
use Rattle.pb_sim_collectives.specs.Results.{AreResults}
use Rattle.pb_sim_collectives.proofs.Entering.{seen_same}
use Rattle.pb_sim_collectives.proofs.Gathering.{all_closed}
use Rattle.pb_sim_collectives.proofs.Forgetting.{last_is_kept, kept_anew}
use Rattle.pb_sim_collectives.proofs.joins.Joins.gather.Goals as goal

pub add-requires-clause-closed : goal.add-requires-clause-closed
add-requires-clause-closed c = all_closed c.self.inside.rounds c.self.inside.lists (c.number-number.result - 1) (ap (λ x. all_entered x (c.number-number.result - 1)) c.self.view_is ∙ sym c.all_entered.ensures ∙ c.if-all_entered.true)

pub add-requires-clause-kept : goal.add-requires-clause-kept
add-requires-clause-kept c =
    let a : length (get_or (items_of c.self.inside.lists) c.args.rank []) ≡ number c.args.self.now c.args.rank = ap (λ x. number x c.args.rank) c.self.view_is in
    last_is_kept c.self.inside.lists c.args.rank (c.number-number.result - 1) c.self.invariant.2 (omega (arith, a, c.number-number.ensures, c.requires))

pub forget-requires-clause-order : goal.forget-requires-clause-order
forget-requires-clause-order c =
    let a : length (get_or (items_of c.self.inside.lists) c.args.rank []) ≡ number c.args.self.now c.args.rank = ap (λ x. number x c.args.rank) c.self.view_is in
    last_is_kept c.self.inside.lists c.args.rank (c.number-number.result - 1) c.self.invariant.2 (omega (arith, a, c.number-number.ensures, c.requires))

pub forget-requires-clause-there : goal.forget-requires-clause-there
forget-requires-clause-there c = λ r lt.
    let h : c.number-number.result - 1 < length (get_or (items_of c.self.inside.lists) r []) = all_closed c.self.inside.rounds c.self.inside.lists (c.number-number.result - 1) (ap (λ x. all_entered x (c.number-number.result - 1)) c.self.view_is ∙ sym c.all_entered.ensures ∙ c.if-all_entered.true) r lt in
    omega (arith, h)

pub invariant_of-self : goal.invariant_of-self
invariant_of-self c = (
  seen_same c.self.inside.rounds c.self.inside.rounds c.self.inside.lists c.forget.new.self c.self.inside.total refl c.forget.ensures.items c.self.invariant.0,
  subst (λ (lists : List (List (List ℕ))). AreResults lists c.add.new.self.last) (sym c.forget.ensures.items) c.add.ensures,
  kept_anew c.self.inside.lists c.forget.new.self (c.number-number.result - 1) c.forget.ensures.items c.forget.ensures.starts
      (all_closed c.self.inside.rounds c.self.inside.lists (c.number-number.result - 1) (ap (λ x. all_entered x (c.number-number.result - 1)) c.self.view_is ∙ sym c.all_entered.ensures ∙ c.if-all_entered.true)),
)
