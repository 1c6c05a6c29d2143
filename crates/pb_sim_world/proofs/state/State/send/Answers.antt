use Rattle.std.proofs.Common.{◌≡◌, ◌≤◌, ◌+◌, ◌∙◌, ◌∷◌, ◌++◌, [], ℕ, ap, subst, refl, sym, true, false, length}
use Rattle.std.specs.Result.{is_ok}
use Rattle.pb_world.specs.Actions.{Send}
use Rattle.pb_chan.specs.Lists.{messages, words_in}
use Rattle.pb_machine.specs.declared.act.Input.TheVariants.{Plain}
use Rattle.pb_sim_world.specs.declared.stand.Stand.{Stand}
use Rattle.pb_sim_world.specs.declared.state.State.{State}
use Rattle.pb_sim_world.specs.Events.{IsEvent, IsOtherThan, IsAdvanced}
use Rattle.pb_sim_world.proofs.Advancing.{made, alike}
use Rattle.pb_sim_world.proofs.Before.{ok_of, err_of, written, as_before}
use Rattle.pb_sim_world.proofs.Sending.{IsChanged, send_event}
use Rattle.pb_sim_world.proofs.state.State.send.Goals as goal

pub returns-then-not-sent-clause-same : goal.returns-then-not-sent-clause-same
returns-then-not-sent-clause-same c =
    let k : is_ok c.put.result ≡ false = sym c.is_ok-sent.ensures.value ∙ c.if-not-sent.true in
    as_before c.args.self.now c.put.new.self c.requires.may.sound
    (err_of c.put.result ((p q : ℕ) → messages c.put.new.self p q ≡ messages c.args.self.now.channels p q) k c.put.ensures.kept)
    (err_of c.put.result (words_in c.put.new.self ≡ words_in c.args.self.now.channels) k c.put.ensures.kept_words)

pub returns-clause-event : goal.returns-clause-event
returns-clause-event c =
    let k : is_ok c.put.result ≡ true = sym c.is_ok-sent.ensures.value ∙ c.if-not-sent.false in
    let changed = ok_of c.put.result (IsChanged c.args.self.now.channels c.args.rank c.args.to (λ ms. ms ++ record { label = c.args.label; words = c.args.words } ∷ []) c.put.new.self) k c.put.ensures.put in
    let n : words_in c.put.new.self ≡ words_in c.args.self.now.channels + length c.args.words = ok_of c.put.result (words_in c.put.new.self ≡ words_in c.args.self.now.channels + length c.args.words) k c.put.ensures.words in
    let few : words_in c.args.self.now.channels + length c.args.words ≤ 16777216 = c.requires.few in
    subst (λ (t : State). IsEvent c.args.self.now c.args.rank (Send c.args.to c.args.label c.args.words ∷ []) t × IsOtherThan c.args.self.now c.args.rank c.args.to t)
    (made c.args.self.now c.keep.new.self c.keep.new.self.stands c.put.new.self c.args.self.now.joins (c.keep.ensures.tree ∙ c.advance.ensures.tree) (c.keep.ensures.n ∙ c.advance.ensures.n) refl (c.keep.ensures.channels ∙ c.advance.ensures.channels) (c.keep.ensures.joins ∙ c.advance.ensures.joins))
    (send_event c.args.self.now c.args.rank c.keep.new.self.ranks c.keep.new.self.stands c.put.new.self c.args.to c.args.label c.args.words c.args.mode _ c.requires.may c.requires.long
    (subst (IsAdvanced c.args.self.now c.args.rank Plain) (sym c.keep.ensures.ranks) (alike c.args.self.now c.args.rank Plain c.advance.new.self.ranks c.args.self.now.stands c.put.new.self c.args.self.now.joins c.advance.ensures.advanced))
    (written _ _ _ c.args.rank _ c.advance.ensures.stands c.keep.ensures.stands)
    c.waits_for.ensures (ap (λ (v : Stand). v.left) c.kept_of-kept.ensures) (ap (λ (v : Stand). v.mode) c.kept_of-kept.ensures)
    changed (rw n few) n)
