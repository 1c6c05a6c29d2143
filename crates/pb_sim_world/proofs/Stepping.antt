-- A rank has a step of the world exactly where `can` is true.
use Rattle.std.proofs.Common.{◌≡◌, ◌<◌, ℕ, zero, suc, true, false, Option, Some, None, List, [], ◌∷◌, length, refl, ap, sym, ◌∙◌, subst, zero-add}
use Rattle.std.specs.List.{remove}
use Rattle.std.proofs.lemmas.Bool.{eq-eqb}
use Rattle.pb_text.specs.declared.mode.Mode.TheVariants.{Eager}
use Rattle.pb_world.specs.Actions.{Choose, Run, Receives, Leaves}
use Rattle.pb_world.specs.Machine as N
use Rattle.pb_world.specs.Family.{choosing, running}
use Rattle.pb_world.specs.World as W
use Rattle.pb_world.specs.Counted.{Counted}
use Rattle.pb_local.specs.Machine as M
use Rattle.pb_local.specs.Collectives.{words_of, weight}
use Rattle.pb_local.specs.Family.{text_machine, Sequence, family}
use Rattle.pb_chan.specs.declared.message.Message.{Message}
use Rattle.pb_chan.specs.Lists.{messages, label_of, position}
use Rattle.pb_sim_collectives.specs.Calls.{collective_of, call_of}
use Rattle.pb_machine.specs.declared.act.Act.{Act}
use Rattle.pb_machine.specs.declared.act.Act.TheVariants as A
use Rattle.pb_machine.specs.declared.act.Next.{Next}
use Rattle.pb_machine.specs.declared.act.Next.TheVariants as X
use Rattle.pb_machine.specs.Steps.{is_there}
use Rattle.pb_sim_world.specs.declared.stand.Waits.{Waits}
use Rattle.pb_sim_world.specs.declared.state.State.{State}
use Rattle.pb_sim_world.specs.States.{program, total_of, stand, state_at, next_step, next_at}
use Rattle.pb_sim_world.specs.Worlds.{moded, is_to, world_of, released}
use Rattle.pb_sim_world.specs.Can.{reads, may_leave, leaves_in, can_act, can_next, unless_waiting, can}
use Rattle.pb_sim_world.specs.Sound.{IsState}
use Rattle.pb_sim_world.proofs.Free.{free}
use Rattle.pb_sim_world.proofs.Alone.{silent_next, probe_next, run_next, choose_next}
use Rattle.pb_sim_world.proofs.Near.{near}
use Rattle.pb_sim_world.proofs.Taking.{takes}
use Rattle.pb_sim_world.proofs.Sending.{send_next, receive_next}
use Rattle.pb_sim_world.proofs.Receiving.{let_go}
use Rattle.pb_sim_world.proofs.Entries.{enter_next}
use Rattle.pb_sim_world.proofs.Joining.{agreed}
use Rattle.pb_sim_world.proofs.Exits.{leave_next, inside, exit_step}

zeros : ℕ → List ℕ
zeros zero = []
zeros (suc n) = 0 ∷ zeros n

zeros_long : (n : ℕ) → length (zeros n) ≡ n
unfolding zeros
zeros_long zero = refl
zeros_long (suc n) = ap suc (zeros_long n)

never : {P : Type 0} → false ≡ true → P
never {P} e = absurd (clash e) where
  clash : false ≡ true → ⊥
  clash z = cc

found_at : (o : Option ℕ) → is_there o ≡ true → (at : ℕ) × (o ≡ Some at)
found_at None e = never e
found_at (Some at) e = (at, refl)

module _ (s : State) (r : ℕ) (sound : IsState s) (h : r < total_of s) (sequence : Sequence) where
  Can : Type 0
  Can = W.CanStep (family (program s) s.n sequence) (world_of s) r

  module _ (e : (stand s r).waits ≡ None) where
    is_free : W.IsFree (family (program s) s.n sequence) (world_of s) r
    is_free = free s sequence r h e

    can_read : (from : ℕ) → next_step s r ≡ N.Probe from → (ms : List Message) → messages s.channels from r ≡ ms → reads s (state_at s r) (label_of ms) ≡ true → W.CanStep (family (program s) s.n sequence) (world_of s) r
    can_read from next [] m c = never c
    can_read from next (m ∷ ms) is c = by_read ((text_machine (program s) s.n).read (state_at s r) m.label) refl c where
      by_read : (o : Option (Counted M.Rank)) → (text_machine (program s) s.n).read (state_at s r) m.label ≡ o → is_there o ≡ true → W.CanStep (family (program s) s.n sequence) (world_of s) r
      by_read None f t = never t
      by_read (Some y) f t = (_, _, W.probe is_free next (ap (moded (is_to (stand s from).waits r)) is) f)

    can_receive : (from label : ℕ) → next_step s r ≡ N.Does (Receives from label) → is_there (position label 0 (messages s.channels from r)) ≡ true → W.CanStep (family (program s) s.n sequence) (world_of s) r
    can_receive from label next c =
        let f = found_at (position label 0 (messages s.channels from r)) c in
        let lt : from < total_of s = near (program s) s.n (state_at s r) (Receives from label) next in
        let left = is_there (position label 0 (remove (messages s.channels from r) f.0)) in
        let go = let_go s from r label f.0 (is_there (position label 0 (remove (messages s.channels from r) f.0))) sound lt f.1 refl in
        let t = takes label 0 f.0 (is_to (stand s from).waits r) (is_to (released (stand s from).waits r label (is_there (position label 0 (remove (messages s.channels from r) f.0)))) r) (messages s.channels from r) f.0 f.1 (sym (zero-add f.0)) go.last go.other in
        (_, _, W.receive is_free next t.taken)

    by_act : (act : Act) → next_at s r ≡ X.Acts act → can_act s r act ≡ true → W.CanStep (family (program s) s.n sequence) (world_of s) r
    by_act (A.Choose kernel branches) f c = (_, _, W.internal {a = Choose kernel branches 0} is_free (choose_next (next_step s r) kernel branches f) choosing c)
    by_act (A.Run kernel) f c = (_, _, W.internal {a = Run kernel} is_free (run_next (next_step s r) kernel f) running refl)
    by_act (A.Send to label) f c = (_, _, W.send {words = zeros (words_of (program s) s.n label)} Eager is_free (send_next (next_step s r) to label f) (eq-eqb (length (zeros (words_of (program s) s.n label))) (words_of (program s) s.n label) (zeros_long (words_of (program s) s.n label))))
    by_act (A.Recv from label) f c = can_receive from label (receive_next (next_step s r) from label f) c
    by_act (A.Enter what root op) f c =
        let l : r < length s.joins.words = subst (λ (k : ℕ). r < k) (sym sound.joins) h in
        (_, _, W.enter {words = zeros (weight (program s) s.n (collective_of (call_of what root op)) r)} Eager is_free (enter_next (next_step s r) what root op f) (λ p lt entry g. agreed s.joins r (call_of what root op) [] sound.joined l c p entry g) (eq-eqb (length (zeros (weight (program s) s.n (collective_of (call_of what root op)) r))) (weight (program s) s.n (collective_of (call_of what root op)) r) (zeros_long (weight (program s) s.n (collective_of (call_of what root op)) r))))
    by_act A.Leave f c =
        let p = leave_next (next_step s r) f in
        let q = inside s r p.0 sound h p.1 in
        let let_out : leaves_in s.joins r (stand s r).left q.2.call (stand s r).mode ≡ true = ap (may_leave s.joins r (stand s r).left (stand s r).mode) (sym q.2.there) ∙ c in
        (_, _, exit_step s r sound h q.2.call sequence is_free (p.1 ∙ ap (λ j. N.Does (Leaves j)) (sym q.2.same)) q.2.there let_out)

    by_next : (next : Next) → next_at s r ≡ next → can_next s r (state_at s r) next ≡ true → W.CanStep (family (program s) s.n sequence) (world_of s) r
    by_next X.Silent f c = (_, _, W.silent is_free (silent_next (next_step s r) f))
    by_next (X.Acts act) f c = by_act act f c
    by_next (X.Waits from) f c = can_read from (probe_next (next_step s r) from f) (messages s.channels from r) refl c
    by_next X.Ended f c = never c
    by_next X.Lost f c = never c
    by_next X.Undefined f c = never c

  pub has_step : can s r ≡ true → W.CanStep (family (program s) s.n sequence) (world_of s) r
  has_step c = by_waits (stand s r).waits refl c where
    by_waits : (w : Option Waits) → (stand s r).waits ≡ w → unless_waiting w (can_next s r (state_at s r) (next_at s r)) ≡ true → W.CanStep (family (program s) s.n sequence) (world_of s) r
    by_waits None e c = by_next e (next_at s r) refl c
    by_waits (Some w) e c = never c
