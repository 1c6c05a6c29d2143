use Rattle.std.proofs.Common.{◌≡◌, ◌<◌, ◌≤◌, ◌+◌, ◌∙◌, ◌∷◌, [], ℕ, Some, List, ap, subst, refl, sym, arith, length}
use Rattle.std.specs.List.{remove, slice_get}
use Rattle.pb_world.specs.Actions.{Recv, Receives}
use Rattle.pb_chan.specs.Lists.{Entry, messages, words_in, position}
use Rattle.pb_machine.specs.declared.act.Input.TheVariants.{Plain}
use Rattle.pb_machine.specs.Steps.{is_there}
use Rattle.pb_sim_world.specs.declared.stand.Stand.{Stand}
use Rattle.pb_sim_world.specs.declared.state.State.{State}
use Rattle.pb_sim_world.specs.States.{program, state_at, next_step}
use Rattle.pb_sim_world.specs.Worlds.{released}
use Rattle.pb_sim_world.specs.Events.{IsEvent, IsOtherThan, IsAdvanced}
use Rattle.pb_sim_world.proofs.Advancing.{made}
use Rattle.pb_sim_world.proofs.Before.{written}
use Rattle.pb_sim_world.proofs.Near.{near}
use Rattle.pb_sim_world.proofs.Taking.{bounds}
use Rattle.pb_sim_world.proofs.Sending.{receive_next, IsChanged}
use Rattle.pb_sim_world.proofs.Receiving.{receive_event}
use Rattle.pb_sim_world.proofs.state.State.receive.Goals as goal

pub kept_of-kept-requires : goal.kept_of-kept-requires
kept_of-kept-requires c =
    subst (λ (k : ℕ). c.args.from < k) (sym c.requires.may.sound.stands) (near (program c.args.self.now) c.args.self.now.n (state_at c.args.self.now c.args.rank) (Receives c.args.from c.args.label) (receive_next (next_step c.args.self.now c.args.rank) c.args.from c.args.label c.requires.may.next_is))

pub take-words-requires : goal.take-words-requires
take-words-requires c =
    let found : position c.args.label 0 (messages c.args.self.now.channels c.args.from c.args.rank) ≡ Some c.unwrap-at.result = sym c.first.ensures ∙ c.unwrap-at.ensures in
    let b = bounds c.args.label 0 c.unwrap-at.result (messages c.args.self.now.channels c.args.from c.args.rank) found in
    let u : c.unwrap-at.result < 0 + length (messages c.args.self.now.channels c.args.from c.args.rank) = b.1 in
    subst (λ (es : List Entry). c.unwrap-at.result < length (messages es c.args.from c.args.rank)) (sym c.advance.ensures.channels) (omega (arith, u))

pub keep-requires : goal.keep-requires
keep-requires c =
    subst (λ v. c.args.from < length v.items) (sym c.advance.ensures.stands)
    (subst (λ (k : ℕ). c.args.from < k) (sym c.requires.may.sound.stands) (near (program c.args.self.now) c.args.self.now.n (state_at c.args.self.now c.args.rank) (Receives c.args.from c.args.label) (receive_next (next_step c.args.self.now c.args.rank) c.args.from c.args.label c.requires.may.next_is)))

pub returns-clause-event : goal.returns-clause-event
returns-clause-event c =
    let found : position c.args.label 0 (messages c.args.self.now.channels c.args.from c.args.rank) ≡ Some c.unwrap-at.result = sym c.first.ensures ∙ c.unwrap-at.ensures in
    let got = subst (λ (es : List Entry). (l : ℕ) × (slice_get (messages es c.args.from c.args.rank) c.unwrap-at.result ≡ Some (record { label = l; words = c.take-words.result }))) c.advance.ensures.channels c.take-words.ensures.taken in
    let changed = subst (λ (es : List Entry). IsChanged es c.args.from c.args.rank (λ ms. remove ms c.unwrap-at.result) c.take-words.new.self) c.advance.ensures.channels c.take-words.ensures.left in
    let n : words_in c.take-words.new.self + length c.take-words.result ≡ words_in c.args.self.now.channels = c.take-words.ensures.words ∙ ap words_in c.advance.ensures.channels in
    let few : words_in c.args.self.now.channels ≤ 16777216 = c.requires.may.sound.words in
    let left = is_there (position c.args.label 0 (messages c.take-words.new.self c.args.from c.args.rank)) in
    subst (λ (t : State). IsEvent c.args.self.now c.args.rank (Recv c.args.from c.args.label c.take-words.result ∷ []) t × IsOtherThan c.args.self.now c.args.rank c.args.from t)
    (made c.args.self.now c.keep.new.self c.keep.new.self.stands c.take-words.new.self c.args.self.now.joins (c.keep.ensures.tree ∙ c.advance.ensures.tree) (c.keep.ensures.n ∙ c.advance.ensures.n) refl c.keep.ensures.channels (c.keep.ensures.joins ∙ c.advance.ensures.joins))
    (receive_event c.args.self.now c.args.rank c.keep.new.self.ranks c.keep.new.self.stands c.take-words.new.self c.args.from c.args.label c.unwrap-at.result c.take-words.result left _ c.requires.may found got refl
    (subst (IsAdvanced c.args.self.now c.args.rank Plain) (sym c.keep.ensures.ranks) c.advance.ensures.advanced)
    (written _ _ _ c.args.from _ c.advance.ensures.stands c.keep.ensures.stands)
    (c.waits_behind-waits.ensures ∙ ap (λ (v : Stand). released v.waits c.args.rank c.args.label left) c.kept_of-kept.ensures) (ap (λ (v : Stand). v.left) c.kept_of-kept.ensures) (ap (λ (v : Stand). v.mode) c.kept_of-kept.ensures)
    changed (omega (arith, n, few)) n)
