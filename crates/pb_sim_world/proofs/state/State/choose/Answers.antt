use Rattle.std.proofs.Common.{◌∷◌, [], ◌≡◌, ◌<◌, ◌+◌, ◌∙◌, ℕ, ap, subst, refl, sym, nat_lt, true, arith}
use Rattle.std.proofs.lemmas.Bool.Decides.{nat_tests}
use Rattle.std.specs.List.{slice_set}
use Rattle.pb_machine.specs.declared.act.Input.TheVariants.{Answer}
use Rattle.pb_machine.specs.Steps.{goes_with}
use Rattle.pb_world.specs.Actions.{Choose}
use Rattle.pb_world.specs.Family.{choosing}
use Rattle.pb_sim_world.specs.declared.stand.Stand.{Stand}
use Rattle.pb_sim_world.specs.declared.state.State.{State}
use Rattle.pb_sim_world.specs.States.{next_step}
use Rattle.pb_sim_world.specs.Events.{IsEvent, IsOther, IsAdvanced}
use Rattle.pb_sim_world.proofs.Advancing.{made}
use Rattle.pb_sim_world.proofs.Alone.{internal_event, choose_next}
use Rattle.pb_sim_world.proofs.Before.{asked_then}
use Rattle.pb_sim_world.proofs.state.State.choose.Goals as goal

pub advance-requires-clause-input : goal.advance-requires-clause-input
advance-requires-clause-input c =
    let h : c.args.branch < c.args.branches = c.requires.branch in
    let e : nat_lt c.args.branch c.args.branches ≡ true = grind (arith, nat_tests) in
    ap (λ x. goes_with x (Answer c.args.branch)) c.requires.may.next_is ∙ e

pub returns-clause-event : goal.returns-clause-event
returns-clause-event c =
    let h : c.args.branch < c.args.branches = c.requires.branch in
    let e : nat_lt c.args.branch c.args.branches ≡ true = grind (arith, nat_tests) in
    let new : Stand = record { waits = c.kept_of-kept.result.waits; left = c.kept_of-kept.result.left; mode = c.kept_of-kept.result.mode; asked = c.kept_of-kept.result.asked + 1 } in
    subst (λ (t : State). IsEvent c.args.self.now c.args.rank (Choose c.args.kernel c.args.branches c.args.branch ∷ []) t × IsOther c.args.self.now c.args.rank t)
    (made c.args.self.now c.keep.new.self c.keep.new.self.stands c.args.self.now.channels c.args.self.now.joins (c.keep.ensures.tree ∙ c.advance.ensures.tree) (c.keep.ensures.n ∙ c.advance.ensures.n) refl (c.keep.ensures.channels ∙ c.advance.ensures.channels) (c.keep.ensures.joins ∙ c.advance.ensures.joins))
    (internal_event c.args.self.now c.args.rank c.keep.new.self.ranks new c.keep.new.self.stands (Choose c.args.kernel c.args.branches c.args.branch) (Answer c.args.branch) _ c.requires.may (choose_next (next_step c.args.self.now c.args.rank) c.args.kernel c.args.branches c.requires.may.next_is) choosing refl e
    (subst (IsAdvanced c.args.self.now c.args.rank (Answer c.args.branch)) (sym c.keep.ensures.ranks) c.advance.ensures.advanced)
    (c.keep.ensures.stands ∙ ap (λ v. slice_set v.items c.args.rank new) c.advance.ensures.stands)
    (ap (λ (v : Stand). v.waits) c.kept_of-kept.ensures) (ap (λ (v : Stand). v.left) c.kept_of-kept.ensures) (ap (λ (v : Stand). v.mode) c.kept_of-kept.ensures))

pub returns-clause-asked : goal.returns-clause-asked
returns-clause-asked c =
    let new : Stand = record { waits = c.kept_of-kept.result.waits; left = c.kept_of-kept.result.left; mode = c.kept_of-kept.result.mode; asked = c.kept_of-kept.result.asked + 1 } in
    asked_then c.args.self.now c.keep.new.self c.args.rank 1 new (subst (λ (k : ℕ). c.args.rank < k) (sym c.requires.may.sound.stands) c.requires.may.there) (c.keep.ensures.stands ∙ ap (λ v. slice_set v.items c.args.rank new) c.advance.ensures.stands) (ap (λ (v : Stand). v.asked + 1) c.kept_of-kept.ensures)
