-- Events that no other rank takes part in.
use Rattle.std.proofs.Common.{◌≡◌, ◌<◌, ◌+◌, List, [], ◌∷◌, ℕ, Bool, true, false, Option, Some, None, refl, ap, sym, ◌∙◌, subst}
use Rattle.std.specs.Global.{Vec}
use Rattle.std.specs.List.{slice_set}
use Rattle.std.proofs.lemmas.List.{set-get_or}
use Rattle.pb_world.specs.Actions.{Action, Kind, Chooses, Runs, Sends, Receives, Enters, Leaves, Barrier, Broadcast, Reduce, Allreduce, kind_of, branch_in}
use Rattle.pb_world.specs.Machine as N
use Rattle.pb_world.specs.Family.{IsInternal, choosing, running}
use Rattle.pb_world.specs.World as W
use Rattle.pb_world.specs.Counted.{Counted}
use Rattle.pb_local.specs.Machine as M
use Rattle.pb_local.specs.Family.{is_allowed, text_machine, Sequence, family}
use Rattle.pb_chan.specs.declared.message.Message.{Message}
use Rattle.pb_chan.specs.Lists.{messages, label_of, words_in}
use Rattle.pb_machine.specs.declared.act.Act.{Act}
use Rattle.pb_machine.specs.declared.act.Act.TheVariants as A
use Rattle.pb_machine.specs.declared.act.Next.{Next}
use Rattle.pb_machine.specs.declared.act.Next.TheVariants as X
use Rattle.pb_machine.specs.declared.act.Input.{Input}
use Rattle.pb_machine.specs.declared.act.Input.TheVariants.{Plain, Tag}
use Rattle.pb_machine.specs.declared.rank.Rank.{Rank}
use Rattle.pb_machine.specs.Acts.{act_of}
use Rattle.pb_machine.specs.Steps.{next_of, is_there, answer_in}
use Rattle.pb_sim_world.specs.declared.stand.Stand.{Stand}
use Rattle.pb_sim_world.specs.declared.state.State.{State}
use Rattle.pb_sim_world.specs.States.{program, total_of, fresh, stand, state_at, next_step}
use Rattle.pb_sim_world.specs.Flight.{words_sent, words_received}
use Rattle.pb_sim_world.specs.Worlds.{moded, is_to, world_of}
use Rattle.pb_sim_world.specs.Sound.{IsWaiting, IsJoining, IsState}
use Rattle.pb_sim_world.specs.Events.{remade, IsAdvanced, IsMoved, IsEvent, MayStep, IsOther}
use Rattle.pb_sim_world.proofs.Parts.{same_world}
use Rattle.pb_sim_world.proofs.Free.{free}
use Rattle.pb_sim_world.proofs.Advancing.{quiet_moved, read_moved, act_moved}
use Rattle.pb_sim_world.proofs.Kept.{state_moved, stand_moved, kept, each_but, at_other, can_same, quiet_joining, read_joining, own_joining}

-- ---- what is next in the definition's words

pub silent_next : (x : N.Next) → next_of x ≡ X.Silent → x ≡ N.Silent
silent_next N.Silent e = refl
silent_next (N.Does kind) e = cc
silent_next (N.Probe source) e = cc
silent_next N.Ended e = cc
silent_next N.Lost e = cc
silent_next N.Undefined e = cc

pub probe_next : (x : N.Next) (from : ℕ) → next_of x ≡ X.Waits from → x ≡ N.Probe from
probe_next N.Silent from e = cc
probe_next (N.Does kind) from e = cc
probe_next (N.Probe source) from e = cc
probe_next N.Ended from e = cc
probe_next N.Lost from e = cc
probe_next N.Undefined from e = cc

run_kind : (kind : Kind) (k : ℕ) → act_of kind ≡ A.Run k → kind ≡ Runs k
run_kind (Chooses kernel branches) k e = cc
run_kind (Runs kernel) k e = cc
run_kind (Sends to label) k e = cc
run_kind (Receives from label) k e = cc
run_kind (Enters Barrier) k e = cc
run_kind (Enters (Broadcast label root)) k e = cc
run_kind (Enters (Reduce label operation root)) k e = cc
run_kind (Enters (Allreduce label operation)) k e = cc
run_kind (Leaves joint) k e = cc

choose_kind : (kind : Kind) (k n : ℕ) → act_of kind ≡ A.Choose k n → kind ≡ Chooses k n
choose_kind (Chooses kernel branches) k n e = cc
choose_kind (Runs kernel) k n e = cc
choose_kind (Sends to label) k n e = cc
choose_kind (Receives from label) k n e = cc
choose_kind (Enters Barrier) k n e = cc
choose_kind (Enters (Broadcast label root)) k n e = cc
choose_kind (Enters (Reduce label operation root)) k n e = cc
choose_kind (Enters (Allreduce label operation)) k n e = cc
choose_kind (Leaves joint) k n e = cc

pub acts_next : (x : N.Next) (act : Act) → next_of x ≡ X.Acts act → (kind : Kind) × (x ≡ N.Does kind) × (act_of kind ≡ act)
acts_next N.Silent act e = absurd (clash e) where
  clash : X.Silent ≡ X.Acts act → ⊥
  clash z = cc
acts_next (N.Does kind) act e = (kind, refl, same e) where
  same : X.Acts (act_of kind) ≡ X.Acts act → act_of kind ≡ act
  same z = cc
acts_next (N.Probe source) act e = absurd (clash e) where
  clash : X.Waits source ≡ X.Acts act → ⊥
  clash z = cc
acts_next N.Ended act e = absurd (clash e) where
  clash : X.Ended ≡ X.Acts act → ⊥
  clash z = cc
acts_next N.Lost act e = absurd (clash e) where
  clash : X.Lost ≡ X.Acts act → ⊥
  clash z = cc
acts_next N.Undefined act e = absurd (clash e) where
  clash : X.Undefined ≡ X.Acts act → ⊥
  clash z = cc

pub run_next : (x : N.Next) (k : ℕ) → next_of x ≡ X.Acts (A.Run k) → x ≡ N.Does (Runs k)
run_next x k e = let p = acts_next x (A.Run k) e in p.1 ∙ ap N.Does (run_kind p.0 k p.2)

pub choose_next : (x : N.Next) (k n : ℕ) → next_of x ≡ X.Acts (A.Choose k n) → x ≡ N.Does (Chooses k n)
choose_next x k n e = let p = acts_next x (A.Choose k n) e in p.1 ∙ ap N.Does (choose_kind p.0 k n p.2)

-- ---- a rank moves, and nothing else that others look at

module _ (s : State) (r : ℕ) (z : Counted M.Rank) (ranks : Vec Rank) (new : Stand) (stands : Vec Stand) where
  module _ (sound : IsState s) (h : r < total_of s) (m : IsMoved s r z ranks) (w : stands.items ≡ slice_set s.stands.items r new) (ws : new.waits ≡ (stand s r).waits) (ls : new.left ≡ (stand s r).left) (ms : new.mode ≡ (stand s r).mode) where
    same_of : {A : Type 0} (f : Stand → A) → f new ≡ f (stand s r) → (q : ℕ) → f (stand (remade s ranks stands s.channels s.joins) q) ≡ f (stand s q)
    same_of f e q = ap f (stand_moved s r z ranks r new stands s.channels s.joins sound h w q) ∙ each_but (λ i v (u : Stand). f v ≡ f u) (stand s) (stand s) r new (stand s r) e q (λ n. refl) ∙ ap f (back q) where
      back : (q : ℕ) → W.updated (stand s) r (stand s r) q ≡ stand s q
      back q = each_but (λ i v (u : Stand). v ≡ u) (stand s) (stand s) r (stand s r) (stand s r) refl q (λ n. refl) ∙ same q where
        same : (q : ℕ) → W.updated (stand s) r (stand s r) q ≡ stand s q
        same q = each_but (λ i v (u : Unit {0}). v ≡ stand s i) (stand s) (λ i. tt) r (stand s r) tt refl q (λ n. refl)

    pub own_world : (sequence : Sequence) → W.moved (family (program s) s.n sequence) (world_of s) r z ≡ world_of (remade s ranks stands s.channels s.joins)
    own_world sequence =
        same_world (W.moved (family (program s) s.n sequence) (world_of s) r z) (remade s ranks stands s.channels s.joins)
        (λ q. sym (state_moved s r z ranks r new stands s.channels s.joins sound h m q))
        (λ p q. ap (λ o. moded (is_to o q) (messages s.channels p q)) (sym (same_of (λ v. v.waits) ws p)))
        (λ q. refl) (λ q. sym (same_of (λ v. v.left) ls q)) (λ q. sym (same_of (λ v. v.mode) ms q))

    pub own_kept : IsJoining s.joins r (stand s r).left z.state.todo → IsState (remade s ranks stands s.channels s.joins)
    own_kept joining =
        kept s r z ranks r new stands s.channels s.joins sound h h m w sound.joined sound.joins sound.words sound.within sound.opened
        (λ q lt. each_but (λ i v (u : Unit {0}). i < total_of s → IsWaiting s i v.waits) (stand s) (λ i. tt) r new tt (λ l. subst (IsWaiting s r) (sym ws) (sound.waits r l)) q (λ n l. sound.waits q l) lt)
        (λ q lt. each_but (λ i v (y : Counted M.Rank). i < total_of s → IsJoining s.joins i v.left y.state.todo) (stand s) (state_at s) r new z (λ l. subst (λ (k : ℕ). IsJoining s.joins r k z.state.todo) (sym ls) joining) q (λ n l. sound.joining q l) lt)

    pub own_others : IsOther s r (remade s ranks stands s.channels s.joins)
    own_others q e =
        can_same s ranks stands s.channels q
        (state_moved s r z ranks r new stands s.channels s.joins sound h m q ∙ at_other (state_at s) r z q e)
        (stand_moved s r z ranks r new stands s.channels s.joins sound h w q ∙ at_other (stand s) r new q e)
        (λ p. refl)

  pub own_event : (acts : List Action) → words_received acts ≡ words_sent acts → IsState s → r < total_of s → IsMoved s r z ranks → stands.items ≡ slice_set s.stands.items r new → new.waits ≡ (stand s r).waits → new.left ≡ (stand s r).left → new.mode ≡ (stand s r).mode → IsJoining s.joins r (stand s r).left z.state.todo →
      ((sequence : Sequence) → W.Step (family (program s) s.n sequence) (world_of s) r acts (W.moved (family (program s) s.n sequence) (world_of s) r z)) → IsEvent s r acts (remade s ranks stands s.channels s.joins)
  own_event acts none sound h m w ws ls ms joining step = record {
    step = λ sequence. subst (λ V. W.Step (family (program s) s.n sequence) (world_of s) r acts V) (own_world sound h m w ws ls ms sequence) (step sequence);
    sound = own_kept sound h m w ws ls ms joining;
    tree = refl;
    n = refl;
    flight = ap (λ (k : ℕ). words_in s.channels + k) none;
  }

module _ (s : State) (r : ℕ) (ranks : Vec Rank) where
  pub as_it_was : IsState s → r < total_of s → s.stands.items ≡ slice_set s.stands.items r (stand s r)
  as_it_was sound h = sym (set-get_or s.stands.items r fresh)

  pub silent_event : MayStep s r X.Silent → IsAdvanced s r Plain ranks → IsEvent s r [] (remade s ranks s.stands s.channels s.joins) × IsOther s r (remade s ranks s.stands s.channels s.joins)
  silent_event may a =
      let e : next_step s r ≡ N.Silent = silent_next (next_step s r) may.next_is in
      let m = quiet_moved s r ranks a e in
      let w = as_it_was may.sound may.there in (
        own_event s r _ ranks (stand s r) s.stands [] refl may.sound may.there m w refl refl refl (quiet_joining s r may.sound may.there e) (λ sequence. W.silent (free s sequence r may.there may.free) e),
        own_others s r _ ranks (stand s r) s.stands may.sound may.there m w refl refl refl,
      )

  pub read_event : (from label : ℕ) → MayStep s r (X.Waits from) → label_of (messages s.channels from r) ≡ Some label → is_there ((text_machine (program s) s.n).read (state_at s r) label) ≡ true → IsAdvanced s r (Tag label) ranks → IsEvent s r [] (remade s ranks s.stands s.channels s.joins) × IsOther s r (remade s ranks s.stands s.channels s.joins)
  read_event from label may head there a = by_read ((text_machine (program s) s.n).read (state_at s r) label) refl there where
    e : next_step s r ≡ N.Probe from
    e = probe_next (next_step s r) from may.next_is

    w : s.stands.items ≡ slice_set s.stands.items r (stand s r)
    w = as_it_was may.sound may.there

    first : (ms : List Message) (b : Bool) → label_of ms ≡ Some label → (m : W.Message) × (rest : List W.Message) × (moded b ms ≡ m ∷ rest) × (m.label ≡ label)
    first [] b h = absurd (clash h) where
      clash : ◌≡◌ {A = Option ℕ} None (Some label) → ⊥
      clash z = cc
    first (m ∷ ms) b h = (_, _, refl, same h) where
      same : ◌≡◌ {A = Option ℕ} (Some m.label) (Some label) → m.label ≡ label
      same z = cc

    by_read : (o : Option (Counted M.Rank)) → (text_machine (program s) s.n).read (state_at s r) label ≡ o → is_there o ≡ true → IsEvent s r [] (remade s ranks s.stands s.channels s.joins) × IsOther s r (remade s ranks s.stands s.channels s.joins)
    by_read None h t = absurd (clash t) where
      clash : false ≡ true → ⊥
      clash z = cc
    by_read (Some z) h t =
        let m = read_moved s r ranks from label z a e h in
        let f = first (messages s.channels from r) (is_to (stand s from).waits r) head in
        let read : (text_machine (program s) s.n).read (state_at s r) f.0.label ≡ Some z = ap ((text_machine (program s) s.n).read (state_at s r)) f.3 ∙ h in (
          own_event s r z ranks (stand s r) s.stands [] refl may.sound may.there m w refl refl refl (read_joining s r from label z may.sound may.there e h) (λ sequence. W.probe (free s sequence r may.there may.free) e f.2 read),
          own_others s r z ranks (stand s r) s.stands may.sound may.there m w refl refl refl,
        )

carries_none : (act : Action) → IsInternal act → words_received (act ∷ []) ≡ words_sent (act ∷ [])
carries_none act choosing = refl
carries_none act running = refl

module _ (s : State) (r : ℕ) (ranks : Vec Rank) (new : Stand) (stands : Vec Stand) where
  -- an action whose kernel is the rank's own
  pub internal_event : (act : Action) (input : Input) (next : Next) → MayStep s r next → next_step s r ≡ N.Does (kind_of act) → IsInternal act → branch_in act ≡ answer_in input → is_allowed (program s) s.n r act ≡ true → IsAdvanced s r input ranks → stands.items ≡ slice_set s.stands.items r new → new.waits ≡ (stand s r).waits → new.left ≡ (stand s r).left → new.mode ≡ (stand s r).mode →
      IsEvent s r (act ∷ []) (remade s ranks stands s.channels s.joins) × IsOther s r (remade s ranks stands s.channels s.joins)
  internal_event act input next may e internal branch allowed a w ws ls ms =
      let m = act_moved s r input ranks act a e branch in (
        own_event s r _ ranks new stands (act ∷ []) (carries_none act internal) may.sound may.there m w ws ls ms (own_joining s r act may.sound may.there e internal) (λ sequence. W.internal (free s sequence r may.there may.free) e internal allowed),
        own_others s r _ ranks new stands may.sound may.there m w ws ls ms,
      )
