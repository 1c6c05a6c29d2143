use Rattle.std.proofs.Common.{◌≡◌, ◌∙◌, ◌∷◌, [], ap, subst, refl, sym, true}
use Rattle.std.specs.Result.{is_ok}
use Rattle.pb_world.specs.Actions.{Enter}
use Rattle.pb_sim_collectives.specs.Calls.{collective_of, call_of}
use Rattle.pb_sim_collectives.specs.Joined.{entered, number, all_entered}
use Rattle.pb_machine.specs.declared.act.Input.TheVariants.{Plain}
use Rattle.pb_sim_world.specs.declared.stand.Stand.{Stand}
use Rattle.pb_sim_world.specs.declared.state.State.{State}
use Rattle.pb_sim_world.specs.States.{next_step}
use Rattle.pb_sim_world.specs.Events.{IsEvent, IsOther, IsAdvanced}
use Rattle.pb_sim_world.proofs.Advancing.{made, alike, act_moved}
use Rattle.pb_sim_world.proofs.Before.{ok_of, written}
use Rattle.pb_sim_world.proofs.Entries.{enter_next}
use Rattle.pb_sim_world.proofs.Joining.{enter_event}
use Rattle.pb_sim_world.proofs.Touching.{enter_others}
use Rattle.pb_sim_world.proofs.state.State.enter.Goals as goal

pub returns-clause-event : goal.returns-clause-event
returns-clause-event c =
    let k : is_ok c.enter.result ≡ true = sym c.is_ok-entered.ensures.value ∙ c.if-not-entered.false in
    let j = ok_of c.enter.result (c.enter.new.self ≡ entered c.args.self.now.joins c.args.rank c.of-call.result c.args.words) k c.enter.ensures.ok in
    subst (λ (t : State). IsEvent c.args.self.now c.args.rank (Enter (collective_of (call_of c.args.what c.args.root c.args.op)) c.args.words ∷ []) t)
    (made c.args.self.now c.keep.new.self c.keep.new.self.stands c.args.self.now.channels (entered c.args.self.now.joins c.args.rank (call_of c.args.what c.args.root c.args.op) c.args.words) (c.keep.ensures.tree ∙ c.advance.ensures.tree) (c.keep.ensures.n ∙ c.advance.ensures.n) refl (c.keep.ensures.channels ∙ c.advance.ensures.channels)
    (c.keep.ensures.joins ∙ c.advance.ensures.joins ∙ j ∙ ap (λ d. entered c.args.self.now.joins c.args.rank d c.args.words) c.of-call.ensures))
    (enter_event c.args.self.now c.args.rank c.keep.new.self.ranks c.keep.new.self.stands (call_of c.args.what c.args.root c.args.op) c.args.words c.args.mode _ _ c.requires.may
    (enter_next (next_step c.args.self.now c.args.rank) c.args.what c.args.root c.args.op c.requires.may.next_is) c.requires.fit c.requires.long
    (subst (IsAdvanced c.args.self.now c.args.rank Plain) (sym c.keep.ensures.ranks) (alike c.args.self.now c.args.rank Plain c.advance.new.self.ranks c.args.self.now.stands c.args.self.now.channels c.enter.new.self c.advance.ensures.advanced))
    (written _ _ _ c.args.rank _ c.advance.ensures.stands c.keep.ensures.stands)
    (ap (λ (v : Stand). v.waits) c.kept_of-kept.ensures) (ap (λ (v : Stand). v.left) c.kept_of-kept.ensures) refl)

pub returns-clause-others : goal.returns-clause-others
returns-clause-others c = λ nothing part.
    let k : is_ok c.enter.result ≡ true = sym c.is_ok-entered.ensures.value ∙ c.if-not-entered.false in
    let j = ok_of c.enter.result (c.enter.new.self ≡ entered c.args.self.now.joins c.args.rank c.of-call.result c.args.words) k c.enter.ensures.ok in
    let joins : c.keep.new.self.joins ≡ entered c.args.self.now.joins c.args.rank (call_of c.args.what c.args.root c.args.op) c.args.words = c.keep.ensures.joins ∙ c.advance.ensures.joins ∙ j ∙ ap (λ d. entered c.args.self.now.joins c.args.rank d c.args.words) c.of-call.ensures in
    let m = act_moved c.args.self.now c.args.rank Plain c.keep.new.self.ranks (Enter (collective_of (call_of c.args.what c.args.root c.args.op)) c.args.words)
    (subst (IsAdvanced c.args.self.now c.args.rank Plain) (sym c.keep.ensures.ranks) (alike c.args.self.now c.args.rank Plain c.advance.new.self.ranks c.args.self.now.stands c.args.self.now.channels c.enter.new.self c.advance.ensures.advanced))
    (enter_next (next_step c.args.self.now c.args.rank) c.args.what c.args.root c.args.op c.requires.may.next_is) refl in
    subst (λ (t : State). IsOther c.args.self.now c.args.rank t)
    (made c.args.self.now c.keep.new.self c.keep.new.self.stands c.args.self.now.channels (entered c.args.self.now.joins c.args.rank (call_of c.args.what c.args.root c.args.op) c.args.words) (c.keep.ensures.tree ∙ c.advance.ensures.tree) (c.keep.ensures.n ∙ c.advance.ensures.n) refl (c.keep.ensures.channels ∙ c.advance.ensures.channels) joins)
    (enter_others c.args.self.now c.args.rank c.keep.new.self.ranks c.keep.new.self.stands (call_of c.args.what c.args.root c.args.op) c.args.words _ _ c.requires.may.sound c.requires.may.there c.requires.fit m
    (written _ _ _ c.args.rank _ c.advance.ensures.stands c.keep.ensures.stands) nothing (ap (λ x. all_entered x (number c.args.self.now.joins c.args.rank)) (sym joins) ∙ part))
