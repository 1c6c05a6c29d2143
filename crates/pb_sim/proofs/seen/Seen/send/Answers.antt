use Rattle.std.proofs.Common.{◌≡◌, ◌<◌, ◌≤◌, ◌∙◌, ◌∷◌, [], ℕ, true, false, ap, sym, subst, length, List}
use Rattle.std.specs.Result.{is_ok}
use Rattle.pb_world.specs.Actions.{Send, Sends}
use Rattle.pb_sim_ready.specs.Kept.{put}
use Rattle.pb_sim_ready.specs.Listed.{Lists}
use Rattle.pb_sim_world.specs.declared.state.State.{State}
use Rattle.pb_sim_world.specs.States.{program, state_at, next_step, total_of, stand}
use Rattle.pb_sim_world.specs.Worlds.{waits_for, world_of}
use Rattle.pb_sim.specs.Scheduled.{IsInMode}
use Rattle.pb_sim.proofs.Modes.{sent_in_mode}
use Rattle.pb_sim_world.specs.Can.{can}
use Rattle.pb_sim_world.specs.Sound.{IsState}
use Rattle.pb_sim.specs.Seen.{counted}
use Rattle.pb_sim_world.specs.Events.{IsEvent, IsOtherThan, IsAsked, IsSame}
use Rattle.pb_sim_world.proofs.Before.{ok_of, err_of}
use Rattle.pb_sim.proofs.Exact.{total_kept, asked_many, one_asked, seen_two, few_send, label_few, unchanged, still_seen}
use Rattle.pb_sim_world.proofs.Near.{near}
use Rattle.pb_sim_world.proofs.Sending.{send_next}
use Rattle.pb_sim.proofs.seen.Seen.send.Goals as goal

pub returns-then-not-sent-clause-same : goal.returns-then-not-sent-clause-same
returns-then-not-sent-clause-same c =
    let k : is_ok c.send.result ≡ false = sym c.is_ok-sent.ensures.value ∙ c.if-not-sent.true in
    unchanged c.args.self.now c.send.new.self (err_of c.send.result (IsSame c.args.self.now.state c.send.new.self) k c.send.ensures.same)

pub refresh-requires-clause-sound : goal.refresh-requires-clause-sound
refresh-requires-clause-sound c =
    let k : is_ok c.send.result ≡ true = sym c.is_ok-sent.ensures.value ∙ c.if-not-sent.false in
    let e = ok_of c.send.result (IsEvent c.args.self.now.state c.args.rank (Send c.args.to c.args.label c.args.words ∷ []) c.send.new.self × IsOtherThan c.args.self.now.state c.args.rank c.args.to c.send.new.self) k c.send.ensures.event in
    e.0.sound

pub refresh-requires-clause-total : goal.refresh-requires-clause-total
refresh-requires-clause-total c =
    let k : is_ok c.send.result ≡ true = sym c.is_ok-sent.ensures.value ∙ c.if-not-sent.false in
    let e = ok_of c.send.result (IsEvent c.args.self.now.state c.args.rank (Send c.args.to c.args.label c.args.words ∷ []) c.send.new.self × IsOtherThan c.args.self.now.state c.args.rank c.args.to c.send.new.self) k c.send.ensures.event in
    c.requires.seen.readied.total ∙ sym (total_kept c.args.self.now.state c.send.new.self c.args.rank (Send c.args.to c.args.label c.args.words ∷ []) e.0)

pub refresh-requires-clause-there : goal.refresh-requires-clause-there
refresh-requires-clause-there c =
    let k : is_ok c.send.result ≡ true = sym c.is_ok-sent.ensures.value ∙ c.if-not-sent.false in
    let e = ok_of c.send.result (IsEvent c.args.self.now.state c.args.rank (Send c.args.to c.args.label c.args.words ∷ []) c.send.new.self × IsOtherThan c.args.self.now.state c.args.rank c.args.to c.send.new.self) k c.send.ensures.event in
    subst (λ (k : ℕ). c.args.rank < k) (sym (total_kept c.args.self.now.state c.send.new.self c.args.rank (Send c.args.to c.args.label c.args.words ∷ []) e.0)) c.requires.may.there

pub refresh-requires-2-clause-sound : goal.refresh-requires-2-clause-sound
refresh-requires-2-clause-sound c =
    let k : is_ok c.send.result ≡ true = sym c.is_ok-sent.ensures.value ∙ c.if-not-sent.false in
    let e = ok_of c.send.result (IsEvent c.args.self.now.state c.args.rank (Send c.args.to c.args.label c.args.words ∷ []) c.send.new.self × IsOtherThan c.args.self.now.state c.args.rank c.args.to c.send.new.self) k c.send.ensures.event in
    subst IsState (sym c.refresh.ensures.state) e.0.sound

pub refresh-requires-2-clause-total : goal.refresh-requires-2-clause-total
refresh-requires-2-clause-total c =
    let k : is_ok c.send.result ≡ true = sym c.is_ok-sent.ensures.value ∙ c.if-not-sent.false in
    let e = ok_of c.send.result (IsEvent c.args.self.now.state c.args.rank (Send c.args.to c.args.label c.args.words ∷ []) c.send.new.self × IsOtherThan c.args.self.now.state c.args.rank c.args.to c.send.new.self) k c.send.ensures.event in
    c.refresh.ensures.total ∙ c.requires.seen.readied.total ∙ sym (total_kept c.args.self.now.state c.send.new.self c.args.rank (Send c.args.to c.args.label c.args.words ∷ []) e.0) ∙ ap total_of (sym c.refresh.ensures.state)

pub refresh-requires-2-clause-there : goal.refresh-requires-2-clause-there
refresh-requires-2-clause-there c =
    let k : is_ok c.send.result ≡ true = sym c.is_ok-sent.ensures.value ∙ c.if-not-sent.false in
    let e = ok_of c.send.result (IsEvent c.args.self.now.state c.args.rank (Send c.args.to c.args.label c.args.words ∷ []) c.send.new.self × IsOtherThan c.args.self.now.state c.args.rank c.args.to c.send.new.self) k c.send.ensures.event in
    subst (λ (u : State). c.args.to < total_of u) (sym c.refresh.ensures.state)
    (subst (λ (k : ℕ). c.args.to < k) (sym (total_kept c.args.self.now.state c.send.new.self c.args.rank (Send c.args.to c.args.label c.args.words ∷ []) e.0))
    (near (program c.args.self.now.state) c.args.self.now.state.n (state_at c.args.self.now.state c.args.rank) (Sends c.args.to c.args.label) (send_next (next_step c.args.self.now.state c.args.rank) c.args.to c.args.label c.requires.may.next_is)))

pub returns-clause-stepped : goal.returns-clause-stepped
returns-clause-stepped c = (
    let k : is_ok c.send.result ≡ true = sym c.is_ok-sent.ensures.value ∙ c.if-not-sent.false in
    let e = ok_of c.send.result (IsEvent c.args.self.now.state c.args.rank (Send c.args.to c.args.label c.args.words ∷ []) c.send.new.self × IsOtherThan c.args.self.now.state c.args.rank c.args.to c.send.new.self) k c.send.ensures.event in
    let a = ok_of c.send.result (IsAsked c.args.self.now.state c.args.rank (length c.args.words) c.send.new.self) k c.send.ensures.asked in
    let few : length c.args.words ≤ 1024 = subst (λ (k : ℕ). k ≤ 1024) (sym c.requires.long) (label_few c.args.self.now.state c.args.label c.requires.seen.readied.state) in
    seen_two c.args.self.now c.refresh-2.new.self c.send.new.self c.args.rank (Send c.args.to c.args.label c.args.words ∷ []) c.args.to c.refresh.new.self.ready c.requires.seen e.0 e.1
    (c.refresh-2.ensures.state ∙ c.refresh.ensures.state) (c.refresh-2.ensures.counts ∙ c.refresh.ensures.counts ∙ ap (λ (ws : List ℕ). counted (Send c.args.to c.args.label ws) c.args.self.now.counts) c.list.ensures) (c.refresh-2.ensures.steps ∙ c.refresh.ensures.steps) (c.refresh-2.ensures.total ∙ c.refresh.ensures.total)
    c.refresh.ensures.ready
    (λ f h. subst (λ (u : State). Lists c.refresh-2.new.self.ready (put f c.args.to (can u c.args.to))) c.refresh.ensures.state (c.refresh-2.ensures.ready f h))
    (few_send c.args.self.now.counts c.args.self.now.steps c.requires.seen.few c.args.to c.args.label c.args.words few)
    (asked_many c.args.self.now.state c.send.new.self c.args.rank (length c.args.words) (Send c.args.to c.args.label c.args.words ∷ []) a few (one_asked (length c.args.words)))).0

pub returns-clause-seen : goal.returns-clause-seen
returns-clause-seen c = (
    let k : is_ok c.send.result ≡ true = sym c.is_ok-sent.ensures.value ∙ c.if-not-sent.false in
    let e = ok_of c.send.result (IsEvent c.args.self.now.state c.args.rank (Send c.args.to c.args.label c.args.words ∷ []) c.send.new.self × IsOtherThan c.args.self.now.state c.args.rank c.args.to c.send.new.self) k c.send.ensures.event in
    let a = ok_of c.send.result (IsAsked c.args.self.now.state c.args.rank (length c.args.words) c.send.new.self) k c.send.ensures.asked in
    let few : length c.args.words ≤ 1024 = subst (λ (k : ℕ). k ≤ 1024) (sym c.requires.long) (label_few c.args.self.now.state c.args.label c.requires.seen.readied.state) in
    seen_two c.args.self.now c.refresh-2.new.self c.send.new.self c.args.rank (Send c.args.to c.args.label c.args.words ∷ []) c.args.to c.refresh.new.self.ready c.requires.seen e.0 e.1
    (c.refresh-2.ensures.state ∙ c.refresh.ensures.state) (c.refresh-2.ensures.counts ∙ c.refresh.ensures.counts ∙ ap (λ (ws : List ℕ). counted (Send c.args.to c.args.label ws) c.args.self.now.counts) c.list.ensures) (c.refresh-2.ensures.steps ∙ c.refresh.ensures.steps) (c.refresh-2.ensures.total ∙ c.refresh.ensures.total)
    c.refresh.ensures.ready
    (λ f h. subst (λ (u : State). Lists c.refresh-2.new.self.ready (put f c.args.to (can u c.args.to))) c.refresh.ensures.state (c.refresh-2.ensures.ready f h))
    (few_send c.args.self.now.counts c.args.self.now.steps c.requires.seen.few c.args.to c.args.label c.args.words few)
    (asked_many c.args.self.now.state c.send.new.self c.args.rank (length c.args.words) (Send c.args.to c.args.label c.args.words ∷ []) a few (one_asked (length c.args.words)))).1

pub returns-clause-mode : goal.returns-clause-mode
returns-clause-mode c =
    let k : is_ok c.send.result ≡ true = sym c.is_ok-sent.ensures.value ∙ c.if-not-sent.false in
    let e = ok_of c.send.result (IsEvent c.args.self.now.state c.args.rank (Send c.args.to c.args.label c.args.words ∷ []) c.send.new.self × IsOtherThan c.args.self.now.state c.args.rank c.args.to c.send.new.self) k c.send.ensures.event in
    let w = ok_of c.send.result ((stand c.send.new.self c.args.rank).waits ≡ waits_for c.args.mode c.args.to c.args.label) k c.send.ensures.mode in
    subst (λ (u : State). IsInMode c.args.mode c.args.rank (Send c.args.to c.args.label c.args.words ∷ []) (world_of u)) (sym (c.refresh-2.ensures.state ∙ c.refresh.ensures.state)) (sent_in_mode c.args.self.now.state c.send.new.self c.args.rank c.args.to c.args.label c.args.words c.args.mode e.0 w)

pub returns-then-not-sent-clause-kept : goal.returns-then-not-sent-clause-kept
returns-then-not-sent-clause-kept c =
    let k : is_ok c.send.result ≡ false = sym c.is_ok-sent.ensures.value ∙ c.if-not-sent.true in
    still_seen c.args.self.now c.send.new.self c.requires.seen (err_of c.send.result (IsSame c.args.self.now.state c.send.new.self) k c.send.ensures.same)
