use Rattle.std.proofs.Common.{◌≡◌, ◌<◌, ◌≤◌, ◌∙◌, ◌∷◌, [], ℕ, true, false, ap, sym, subst, length, List}
use Rattle.std.specs.Result.{is_ok}
use Rattle.pb_world.specs.Actions.{Enter}
use Rattle.pb_sim_collectives.specs.Calls.{collective_of, call_of}
use Rattle.pb_sim_collectives.specs.Joined.{number, all_entered}
use Rattle.pb_sim_world.specs.declared.state.State.{State}
use Rattle.pb_sim_world.specs.States.{stand}
use Rattle.pb_sim_world.specs.Can.{decides}
use Rattle.pb_sim.specs.Seen.{counted}
use Rattle.pb_sim_world.specs.Events.{IsEvent, IsOther, IsAsked}
use Rattle.pb_sim_world.proofs.Before.{ok_of}
use Rattle.pb_sim.proofs.Exact.{total_kept, asked_many, one_asked, seen_by, few_enter, weight_few, exact_enter}
use Rattle.pb_sim.proofs.seen.Seen.enter.Goals as goal

pub refresh_for-requires-clause-sound : goal.refresh_for-requires-clause-sound
refresh_for-requires-clause-sound c =
    let k : is_ok c.enter.result ≡ true = sym c.is_ok-entered.ensures.value ∙ c.if-not-entered.false in
    let e = ok_of c.enter.result (IsEvent c.args.self.now.state c.args.rank (Enter (collective_of (call_of c.args.what c.args.root c.args.op)) c.args.words ∷ []) c.enter.new.self) k c.enter.ensures.event in
    e.sound

pub refresh_for-requires-clause-total : goal.refresh_for-requires-clause-total
refresh_for-requires-clause-total c =
    let k : is_ok c.enter.result ≡ true = sym c.is_ok-entered.ensures.value ∙ c.if-not-entered.false in
    let e = ok_of c.enter.result (IsEvent c.args.self.now.state c.args.rank (Enter (collective_of (call_of c.args.what c.args.root c.args.op)) c.args.words ∷ []) c.enter.new.self) k c.enter.ensures.event in
    c.requires.seen.readied.total ∙ sym (total_kept c.args.self.now.state c.enter.new.self c.args.rank (Enter (collective_of (call_of c.args.what c.args.root c.args.op)) c.args.words ∷ []) e)

pub refresh_for-requires-clause-there : goal.refresh_for-requires-clause-there
refresh_for-requires-clause-there c =
    let k : is_ok c.enter.result ≡ true = sym c.is_ok-entered.ensures.value ∙ c.if-not-entered.false in
    let e = ok_of c.enter.result (IsEvent c.args.self.now.state c.args.rank (Enter (collective_of (call_of c.args.what c.args.root c.args.op)) c.args.words ∷ []) c.enter.new.self) k c.enter.ensures.event in
    subst (λ (k : ℕ). c.args.rank < k) (sym (total_kept c.args.self.now.state c.enter.new.self c.args.rank (Enter (collective_of (call_of c.args.what c.args.root c.args.op)) c.args.words ∷ []) e)) c.requires.may.there

pub returns-clause-stepped : goal.returns-clause-stepped
returns-clause-stepped c = (
    let k : is_ok c.enter.result ≡ true = sym c.is_ok-entered.ensures.value ∙ c.if-not-entered.false in
    let e = ok_of c.enter.result (IsEvent c.args.self.now.state c.args.rank (Enter (collective_of (call_of c.args.what c.args.root c.args.op)) c.args.words ∷ []) c.enter.new.self) k c.enter.ensures.event in
    let o = ok_of c.enter.result (decides c.args.self.now.state.joins c.args.rank (call_of c.args.what c.args.root c.args.op) ≡ false → all_entered c.enter.new.self.joins (number c.args.self.now.state.joins c.args.rank) ≡ false → IsOther c.args.self.now.state c.args.rank c.enter.new.self) k c.enter.ensures.others in
    let a = ok_of c.enter.result (IsAsked c.args.self.now.state c.args.rank (length c.args.words) c.enter.new.self) k c.enter.ensures.asked in
    let few : length c.args.words ≤ 1024 = subst (λ (k : ℕ). k ≤ 1024) (sym c.requires.long) (weight_few c.args.self.now.state (collective_of (call_of c.args.what c.args.root c.args.op)) c.args.rank c.requires.seen.readied.state) in
    let exact = exact_enter c.args.self.now.state c.enter.new.self c.args.self.now.ready c.refresh_for.new.self.ready c.args.rank c.decides-first.result c.all_entered-last.result c.requires.seen.readied.exact c.refresh_for.ensures.all c.refresh_for.ensures.one
    (λ f l. o (ap (decides c.args.self.now.state.joins c.args.rank) (sym c.of.ensures) ∙ sym c.decides-first.ensures ∙ f) (ap (all_entered c.enter.new.self.joins) (sym c.number-k.ensures) ∙ sym c.all_entered-last.ensures ∙ l)) in
    seen_by c.args.self.now c.refresh_for.new.self c.enter.new.self c.args.rank (Enter (collective_of (call_of c.args.what c.args.root c.args.op)) c.args.words ∷ []) c.requires.seen e
    c.refresh_for.ensures.state (c.refresh_for.ensures.counts ∙ ap (λ (ws : List ℕ). counted (Enter (collective_of (call_of c.args.what c.args.root c.args.op)) ws) c.args.self.now.counts) c.list.ensures) c.refresh_for.ensures.steps c.refresh_for.ensures.total exact
    (few_enter c.args.self.now.counts c.args.self.now.steps c.requires.seen.few (collective_of (call_of c.args.what c.args.root c.args.op)) c.args.words few)
    (asked_many c.args.self.now.state c.enter.new.self c.args.rank (length c.args.words) (Enter (collective_of (call_of c.args.what c.args.root c.args.op)) c.args.words ∷ []) a few (one_asked (length c.args.words)))).0

pub returns-clause-seen : goal.returns-clause-seen
returns-clause-seen c = (
    let k : is_ok c.enter.result ≡ true = sym c.is_ok-entered.ensures.value ∙ c.if-not-entered.false in
    let e = ok_of c.enter.result (IsEvent c.args.self.now.state c.args.rank (Enter (collective_of (call_of c.args.what c.args.root c.args.op)) c.args.words ∷ []) c.enter.new.self) k c.enter.ensures.event in
    let o = ok_of c.enter.result (decides c.args.self.now.state.joins c.args.rank (call_of c.args.what c.args.root c.args.op) ≡ false → all_entered c.enter.new.self.joins (number c.args.self.now.state.joins c.args.rank) ≡ false → IsOther c.args.self.now.state c.args.rank c.enter.new.self) k c.enter.ensures.others in
    let a = ok_of c.enter.result (IsAsked c.args.self.now.state c.args.rank (length c.args.words) c.enter.new.self) k c.enter.ensures.asked in
    let few : length c.args.words ≤ 1024 = subst (λ (k : ℕ). k ≤ 1024) (sym c.requires.long) (weight_few c.args.self.now.state (collective_of (call_of c.args.what c.args.root c.args.op)) c.args.rank c.requires.seen.readied.state) in
    let exact = exact_enter c.args.self.now.state c.enter.new.self c.args.self.now.ready c.refresh_for.new.self.ready c.args.rank c.decides-first.result c.all_entered-last.result c.requires.seen.readied.exact c.refresh_for.ensures.all c.refresh_for.ensures.one
    (λ f l. o (ap (decides c.args.self.now.state.joins c.args.rank) (sym c.of.ensures) ∙ sym c.decides-first.ensures ∙ f) (ap (all_entered c.enter.new.self.joins) (sym c.number-k.ensures) ∙ sym c.all_entered-last.ensures ∙ l)) in
    seen_by c.args.self.now c.refresh_for.new.self c.enter.new.self c.args.rank (Enter (collective_of (call_of c.args.what c.args.root c.args.op)) c.args.words ∷ []) c.requires.seen e
    c.refresh_for.ensures.state (c.refresh_for.ensures.counts ∙ ap (λ (ws : List ℕ). counted (Enter (collective_of (call_of c.args.what c.args.root c.args.op)) ws) c.args.self.now.counts) c.list.ensures) c.refresh_for.ensures.steps c.refresh_for.ensures.total exact
    (few_enter c.args.self.now.counts c.args.self.now.steps c.requires.seen.few (collective_of (call_of c.args.what c.args.root c.args.op)) c.args.words few)
    (asked_many c.args.self.now.state c.enter.new.self c.args.rank (length c.args.words) (Enter (collective_of (call_of c.args.what c.args.root c.args.op)) c.args.words ∷ []) a few (one_asked (length c.args.words)))).1

pub returns-clause-mode : goal.returns-clause-mode
returns-clause-mode c =
    let k : is_ok c.enter.result ≡ true = sym c.is_ok-entered.ensures.value ∙ c.if-not-entered.false in
    let m = ok_of c.enter.result ((stand c.enter.new.self c.args.rank).mode ≡ c.args.mode) k c.enter.ensures.mode in
    ap (λ (u : State). (stand u c.args.rank).mode) c.refresh_for.ensures.state ∙ m
