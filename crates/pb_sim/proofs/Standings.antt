-- How all ranks stand where nobody has a step.
use Rattle.std.proofs.Common.{◌≡◌, ◌≢◌, ◌<◌, ◌≤◌, ℕ, Bool, true, false, ◌&&◌, not, nat_lt, ◌⊎◌, inl, inr, Option, Some, None, List, [], ◌∷◌, ◌++◌, length, refl, ap, sym, ◌∙◌, subst, arith}
use Rattle.std.proofs.lemmas.Bool.{eq-eqb, not-true, not-false, false_from_ne_true}
use Rattle.std.proofs.lemmas.Bool.Decides.{nat_tests}
use Rattle.pb_text.specs.declared.mode.Mode.TheVariants.{Eager, Waiting}
use Rattle.pb_world.specs.Actions.{Kind, Chooses, Runs, Sends, Receives, Enters, Leaves, Collective, Barrier, Broadcast, Reduce, Allreduce}
use Rattle.pb_world.specs.Machine as N
use Rattle.pb_world.specs.World as W
use Rattle.pb_world.specs.Counted.{Counted}
use Rattle.pb_local.specs.Machine as M
use Rattle.pb_local.specs.Family.{text_machine, Sequence, family}
use Rattle.pb_chan.specs.declared.message.Message.{Message}
use Rattle.pb_chan.specs.Lists.{messages, label_of, IsFirstLeft as IsFirstMessage}
use Rattle.pb_sim_collectives.specs.declared.call.Call.{Call}
use Rattle.pb_sim_collectives.specs.declared.call.Call.TheVariants as K
use Rattle.pb_sim_collectives.specs.Calls.{collective_of}
use Rattle.pb_sim_collectives.specs.Joined.{agrees}
use Rattle.pb_machine.specs.declared.act.Next.TheVariants as X
use Rattle.pb_machine.specs.Acts.{op_of, entry_of}
use Rattle.pb_machine.specs.Steps.{is_there, next_of}
use Rattle.pb_sim_world.specs.declared.stand.Waits.{Waits}
use Rattle.pb_sim_world.specs.declared.state.State.{State}
use Rattle.pb_sim_world.specs.States.{program, total_of, stand, state_at, next_step, next_at}
use Rattle.pb_sim_world.specs.Worlds.{is_to, mode_if, moded, world_of}
use Rattle.pb_sim_world.specs.Can.{reads, can_next, unless_waiting, can, undefined_by, is_undefined}
use Rattle.pb_sim_world.specs.Sound.{IsLast, IsWaiting, IsState}
use Rattle.pb_sim_world.proofs.Free.{moded_more}
use Rattle.pb_sim_world.proofs.Entries.{operation_back}
use Rattle.pb_sim_world.proofs.Joining.{agreed}
use Rattle.pb_sim_world.proofs.Stepping.{has_step}
use Rattle.pb_sim_world.proofs.Converse.{first_label, may_enter, enter_can, can_of}
use Rattle.pb_sim_world.proofs.Laden.{some_branch}
use Rattle.pb_sim.specs.declared.standing.Cause.{Cause}
use Rattle.pb_sim.specs.declared.standing.Cause.TheVariants as C
use Rattle.pb_sim.specs.declared.standing.Standing.TheVariants as S
use Rattle.pb_sim.specs.Causes.{IsLeast, cause_at, cause_by, unless_undefined, cause_in, cause_of}
use Rattle.pb_sim.specs.Standing.{IsGoing, IsUndefined, IsWaitingFor, IsNotWaiting, IsCause, IsFirstLeft, IsStuckBy, IsStanding}
use Rattle.pb_sim.proofs.Modes.{last_mode}

never : {P : Type 0} → true ≡ false → P
never {P} e = absurd (clash e) where
  clash : true ≡ false → ⊥
  clash z = cc

never_so : {P : Type 0} → false ≡ true → P
never_so {P} e = never (sym e)

pub ended_next : (x : N.Next) → next_of x ≡ X.Ended → x ≡ N.Ended
ended_next N.Silent e = cc
ended_next (N.Does kind) e = cc
ended_next (N.Probe source) e = cc
ended_next N.Ended e = refl
ended_next N.Lost e = cc
ended_next N.Undefined e = cc

none_of : {A : Type 0} (o : Option A) → is_there o ≡ false → o ≡ None
none_of None e = refl
none_of (Some x) e = never e

no_messages : (ms : List Message) → is_there (label_of ms) ≡ false → ms ≡ []
no_messages [] e = refl
no_messages (m ∷ ms) e = never e

no_moded : (b : Bool) (ms : List Message) → moded b ms ≡ [] → ms ≡ []
no_moded b [] e = refl
no_moded b (m ∷ ms) e = absurd (clash _ _ e) where
  clash : (x : W.Message) (xs : List W.Message) → ◌≡◌ {A = List W.Message} (x ∷ xs) [] → ⊥
  clash x xs z = cc

-- a call of each collective
call_for : (j : Collective) → (call : Call) × (collective_of call ≡ j)
call_for Barrier = (K.Barrier, refl)
call_for (Broadcast label root) = (K.Broadcast label root, refl)
call_for (Reduce label operation root) = (K.Reduce label (op_of operation) root, ap (λ o. Reduce label o root) (operation_back operation))
call_for (Allreduce label operation) = (K.Allreduce label (op_of operation), ap (λ o. Allreduce label o) (operation_back operation))

pub idle_ended : (s : State) → ((q : ℕ) → q < total_of s → next_at s q ≡ X.Ended) → (k : ℕ) → k < total_of s → can s k ≡ true → ⊥
idle_ended s ended k lt e = by_waits (stand s k).waits (sym (ap (λ x. unless_waiting (stand s k).waits (can_next s k (state_at s k) x)) (ended k lt)) ∙ e) where
  by_waits : (w : Option Waits) → unless_waiting w false ≡ true → ⊥
  by_waits None f = never_so f
  by_waits (Some w) f = never_so f

module _ (s : State) (sequence : Sequence) (sound : IsState s) where
  module _ (r : ℕ) (there : r < total_of s) where
    -- ---- a send that waits

    is_waiting_for : (w : Waits) → (stand s r).waits ≡ Some w → IsWaitingFor (family (program s) s.n sequence) (world_of s) r w.by w.label
    is_waiting_for w e = record { there = held.0; front = moded false held.1.front; message = record { label = w.label; words = held.1.words; mode = Waiting }; is = ends; label_is = refl; waits = refl } where
      held : (w.by < total_of s) × IsLast w.label (messages s.channels r w.by)
      held = subst (IsWaiting s r) e (sound.waits r there)

      ends : moded (is_to (stand s r).waits w.by) (messages s.channels r w.by) ≡ moded false held.1.front ++ record { label = w.label; words = held.1.words; mode = Waiting } ∷ []
      ends = ap (λ b. moded b (messages s.channels r w.by)) (ap (λ (o : Option Waits). is_to o w.by) e ∙ eq-eqb w.by w.by refl) ∙ ap (moded true) held.1.is ∙ moded_more true held.1.front (record { label = w.label; words = held.1.words })

    is_not_waiting : (stand s r).waits ≡ None → IsNotWaiting (family (program s) s.n sequence) (world_of s) r
    is_not_waiting e by label h = clash (sym (last_mode (is_to (stand s r).waits by) (messages s.channels r by) h.front h.message h.is ∙ ap (λ (o : Option Waits). mode_if (is_to o by)) e) ∙ h.waits) where
      clash : Eager ≡ Waiting → ⊥
      clash z = cc

    -- ---- undefined

    enter_undefined : (j : Collective) → undefined_by s r (X.Acts (entry_of j)) ≡ not (agrees s.joins r j)
    enter_undefined Barrier = refl
    enter_undefined (Broadcast label root) = refl
    enter_undefined (Reduce label operation root) = ap (λ o. not (agrees s.joins r (Reduce label o root))) (operation_back operation)
    enter_undefined (Allreduce label operation) = ap (λ o. not (agrees s.joins r (Allreduce label o))) (operation_back operation)

    probe_undefined : (p : ℕ) → next_step s r ≡ N.Probe p → (ms : List Message) → messages s.channels p r ≡ ms → (is_there (label_of ms) && not (reads s (state_at s r) (label_of ms))) ≡ true → IsUndefined (family (program s) s.n sequence) (world_of s) r
    probe_undefined p e [] m u = never_so u
    probe_undefined p e (m ∷ ms) is u = inr (inl (p, _, _, e, ap (moded (is_to (stand s p).waits r)) is, none_of ((text_machine (program s) s.n).read (state_at s r) m.label) (not-true (is_there ((text_machine (program s) s.n).read (state_at s r) m.label)) u)))

    undefined_kind : (kind : Kind) → next_step s r ≡ N.Does kind → undefined_by s r (next_of (N.Does kind)) ≡ true → IsUndefined (family (program s) s.n sequence) (world_of s) r
    undefined_kind (Chooses k n) e u = never_so u
    undefined_kind (Runs k) e u = never_so u
    undefined_kind (Sends q l) e u = never_so u
    undefined_kind (Receives q l) e u = never_so u
    undefined_kind (Leaves j) e u = never_so u
    undefined_kind (Enters j) e u = inr (inr (j, e, λ ag. never (sym (may_enter s r sequence sound j ag) ∙ not-true (agrees s.joins r j) (sym (enter_undefined j) ∙ u))))

    undefined_at : (x : N.Next) → next_step s r ≡ x → undefined_by s r (next_of x) ≡ true → IsUndefined (family (program s) s.n sequence) (world_of s) r
    undefined_at N.Silent e u = never_so u
    undefined_at (N.Does kind) e u = undefined_kind kind e u
    undefined_at (N.Probe p) e u = probe_undefined p e (messages s.channels p r) refl u
    undefined_at N.Ended e u = never_so u
    undefined_at N.Lost e u = never_so u
    undefined_at N.Undefined e u = inl e

    defined : is_undefined s r ≡ false → IsUndefined (family (program s) s.n sequence) (world_of s) r → ⊥
    defined u (inl e) = never (sym (ap (λ x. undefined_by s r (next_of x)) e) ∙ u)
    defined u (inr (inl h)) = by h.0 h.1 h.2 h.3 h.4 h.5 where
      by : (p : ℕ) (m : W.Message) (rest : List W.Message) → next_step s r ≡ N.Probe p → (world_of s).channel p r ≡ m ∷ rest → (text_machine (program s) s.n).read (state_at s r) m.label ≡ None → ⊥
      by p m rest e c none =
          let l : label_of (messages s.channels p r) ≡ Some m.label = first_label (is_to (stand s p).waits r) (messages s.channels p r) m rest c in
          let k : undefined_by s r (X.Waits p) ≡ (is_there (Some m.label) && not (reads s (state_at s r) (Some m.label))) = ap (λ (o : Option ℕ). is_there o && not (reads s (state_at s r) o)) l in
          let z : (is_there (Some m.label) && not (reads s (state_at s r) (Some m.label))) ≡ true = ap (λ (o : Option (Counted M.Rank)). not (is_there o)) none in
          never (sym (k ∙ z) ∙ sym (ap (λ x. undefined_by s r (next_of x)) e) ∙ u)
    defined u (inr (inr h)) = by h.0 h.1 h.2 where
      by : (j : Collective) → next_step s r ≡ N.Does (Enters j) → (W.Agrees (family (program s) s.n sequence) (world_of s) r j → ⊥) → ⊥
      by j e other =
          let k = call_for j in
          let a : agrees s.joins r j ≡ true = not-false (agrees s.joins r j) (sym (enter_undefined j) ∙ sym (ap (λ x. undefined_by s r (next_of x)) e) ∙ u) in
          let l : r < length s.joins.words = subst (λ (i : ℕ). r < i) (sym sound.joins) there in
          other (λ p lt entry g. agreed s.joins r k.0 [] sound.joined l (ap (agrees s.joins r) k.1 ∙ a) p entry g ∙ k.1)

    -- ---- the cause

    can_false : (stand s r).waits ≡ None → can s r ≡ false → can_next s r (state_at s r) (next_at s r) ≡ false
    can_false e f = sym (ap (λ w. unless_waiting w (can_next s r (state_at s r) (next_at s r))) e) ∙ f

    probe_waits : (p : ℕ) → next_step s r ≡ N.Probe p → (ms : List Message) → messages s.channels p r ≡ ms → (is_there (label_of ms) && not (reads s (state_at s r) (label_of ms))) ≡ false → reads s (state_at s r) (label_of ms) ≡ false → (world_of s).channel p r ≡ []
    probe_waits p e [] is u f = ap (moded (is_to (stand s p).waits r)) is
    probe_waits p e (m ∷ ms) is u f = never (sym (ap not f) ∙ u)

    waits_kind : (kind : Kind) → next_step s r ≡ N.Does kind → undefined_by s r (next_of (N.Does kind)) ≡ false → can_next s r (state_at s r) (next_of (N.Does kind)) ≡ false → IsNotWaiting (family (program s) s.n sequence) (world_of s) r → IsCause (family (program s) s.n sequence) (world_of s) r (cause_at (next_of (N.Does kind)))
    waits_kind (Chooses k n) e u f free = never (sym (more (some_branch s r k n sound there e)) ∙ f) where
      more : 0 < n → nat_lt 0 n ≡ true
      more h = grind (arith, nat_tests)
    waits_kind (Runs k) e u f free = never f
    waits_kind (Sends q l) e u f free = never f
    waits_kind (Receives q l) e u f free = (free, e)
    waits_kind (Leaves j) e u f free = (free, (j, e))
    waits_kind (Enters j) e u f free = never (sym (enter_can s r sequence sound j (not-false (agrees s.joins r j) (sym (enter_undefined j) ∙ u))) ∙ f)

    waits_at : (x : N.Next) → next_step s r ≡ x → x ≢ N.Ended → undefined_by s r (next_of x) ≡ false → can_next s r (state_at s r) (next_of x) ≡ false → IsNotWaiting (family (program s) s.n sequence) (world_of s) r → IsCause (family (program s) s.n sequence) (world_of s) r (cause_at (next_of x))
    waits_at N.Silent e going u f free = never f
    waits_at (N.Does kind) e going u f free = waits_kind kind e u f free
    waits_at (N.Probe p) e going u f free = (free, e, probe_waits p e (messages s.channels p r) refl u f)
    waits_at N.Ended e going u f free = absurd (going refl)
    waits_at N.Lost e going u f free = e
    waits_at N.Undefined e going u f free = never u

    lost_or : (x : N.Next) → (x ≡ N.Lost) ⊎ ((x ≢ N.Lost) × ((u : Bool) (w : Option Waits) → cause_in u w (next_of x) ≡ unless_undefined u (cause_by w (next_of x))))
    lost_or N.Silent = inr (clash, λ u w. refl) where
      clash : ◌≡◌ {A = N.Next} N.Silent N.Lost → ⊥
      clash z = cc
    lost_or (N.Does kind) = inr (clash, λ u w. refl) where
      clash : ◌≡◌ {A = N.Next} (N.Does kind) N.Lost → ⊥
      clash z = cc
    lost_or (N.Probe p) = inr (clash, λ u w. refl) where
      clash : ◌≡◌ {A = N.Next} (N.Probe p) N.Lost → ⊥
      clash z = cc
    lost_or N.Ended = inr (clash, λ u w. refl) where
      clash : ◌≡◌ {A = N.Next} N.Ended N.Lost → ⊥
      clash z = cc
    lost_or N.Lost = inl refl
    lost_or N.Undefined = inr (clash, λ u w. refl) where
      clash : ◌≡◌ {A = N.Next} N.Undefined N.Lost → ⊥
      clash z = cc

    pub cause_is : next_step s r ≢ N.Ended → can s r ≡ false → IsCause (family (program s) s.n sequence) (world_of s) r (cause_of s r)
    cause_is going idle = by_lost (lost_or (next_step s r)) where
      by_waits : is_undefined s r ≡ false → next_step s r ≢ N.Lost → (w : Option Waits) → (stand s r).waits ≡ w → IsCause (family (program s) s.n sequence) (world_of s) r (cause_by w (next_at s r))
      by_waits u on None e = waits_at (next_step s r) refl going u (can_false e idle) (is_not_waiting e)
      by_waits u on (Some w) e = (defined u, on, is_waiting_for w e)

      by_bool : next_step s r ≢ N.Lost → (u : Bool) → is_undefined s r ≡ u → IsCause (family (program s) s.n sequence) (world_of s) r (unless_undefined u (cause_by (stand s r).waits (next_at s r)))
      by_bool on true u = undefined_at (next_step s r) refl u
      by_bool on false u = by_waits u on (stand s r).waits refl

      by_lost : (next_step s r ≡ N.Lost) ⊎ ((next_step s r ≢ N.Lost) × ((u : Bool) (w : Option Waits) → cause_in u w (next_at s r) ≡ unless_undefined u (cause_by w (next_at s r)))) → IsCause (family (program s) s.n sequence) (world_of s) r (cause_of s r)
      by_lost (inl e) = subst (IsCause (family (program s) s.n sequence) (world_of s) r) (sym (ap (λ x. cause_in (is_undefined s r) (stand s r).waits (next_of x)) e)) e
      by_lost (inr h) = subst (IsCause (family (program s) s.n sequence) (world_of s) r) (sym (h.1 (is_undefined s r) (stand s r).waits)) (by_bool h.0 (is_undefined s r) refl)

  -- ---- how all stand

  pub going_on : (k : ℕ) → k < total_of s → can s k ≡ true → IsStanding (family (program s) s.n sequence) (world_of s) S.Going
  going_on k lt e = record { rank = k; there = lt; can = has_step s k sound lt sequence e }

  stuck_by : (r : ℕ) (c : Cause) → IsFirstLeft (family (program s) s.n sequence) (world_of s) r → IsCause (family (program s) s.n sequence) (world_of s) r c → IsStuckBy (family (program s) s.n sequence) (world_of s) r c
  stuck_by r (C.Receive from label) f c = (f, c)
  stuck_by r (C.Probe from) f c = (f, c)
  stuck_by r (C.Taken by label) f c = (f, c)
  stuck_by r C.Collective f c = (f, c)
  stuck_by r C.Lost f c = (f, c)
  stuck_by r C.Undefined f c = (f, c)
  stuck_by r (C.Left from label) f c = absurd c

  module _ (idle : (k : ℕ) → k < total_of s → can s k ≡ true → ⊥) where
    not_going : IsGoing (family (program s) s.n sequence) (world_of s) → ⊥
    not_going g = idle g.rank g.there (can_of s g.rank sequence sound g.can)

    pub stuck_at : (r : ℕ) → IsLeast s r → IsStanding (family (program s) s.n sequence) (world_of s) (S.Stuck r (cause_of s r))
    stuck_at r least = (not_going, (λ end. going (end.ended r least.there)), stuck_by r (cause_of s r) (record { there = least.there; goes_on = going; before = λ q lt. ended_next (next_step s q) (least.before q lt) }) (cause_is r least.there going (false_from_ne_true (can s r) (idle r least.there)))) where
      going : next_step s r ≢ N.Ended
      going e = least.goes_on (ap next_of e)

    module _ (ended : (q : ℕ) → q < total_of s → next_at s q ≡ X.Ended) where
      all_ended : (q : ℕ) → q < total_of s → next_step s q ≡ N.Ended
      all_ended q lt = ended_next (next_step s q) (ended q lt)

      pub at_end : ((p q : ℕ) → messages s.channels p q ≡ []) → IsStanding (family (program s) s.n sequence) (world_of s) S.Ended
      at_end empty = (not_going, record { ended = all_ended; empty = λ p q _ _. ap (moded (is_to (stand s p).waits q)) (empty p q) })

      pub left_over : (r from label : ℕ) → IsFirstMessage s.channels r from label → IsStanding (family (program s) s.n sequence) (world_of s) (S.Stuck r (C.Left from label))
      left_over r from label first = by_list (messages s.channels from r) refl where
        none : (p q : ℕ) → (messages s.channels p q ≢ [] → ⊥) → (world_of s).channel p q ≡ []
        none p q h = by (messages s.channels p q) refl where
          clash : (m : Message) (ms : List Message) → ◌≡◌ {A = List Message} (m ∷ ms) [] → ⊥
          clash m ms z = cc

          by : (ms : List Message) → messages s.channels p q ≡ ms → (world_of s).channel p q ≡ []
          by [] e = ap (moded (is_to (stand s p).waits q)) e
          by (m ∷ ms) e = absurd (h (λ z. clash m ms (sym e ∙ z)))

        by_list : (ms : List Message) → messages s.channels from r ≡ ms → IsStanding (family (program s) s.n sequence) (world_of s) (S.Stuck r (C.Left from label))
        by_list [] e = absurd (clash (sym (ap label_of e) ∙ first.begins)) where
          clash : ◌≡◌ {A = Option ℕ} None (Some label) → ⊥
          clash z = cc
        by_list (m ∷ ms) e =
            let w = sound.within from r (λ z. some (sym e ∙ z)) in (
              not_going,
              (λ end. some (sym e ∙ no_moded (is_to (stand s from).waits r) (messages s.channels from r) (end.empty from r w.0 w.1))),
              record {
                ended = all_ended;
                there = w.1;
                sender = w.0;
                message = _;
                rest = _;
                is = ap (moded (is_to (stand s from).waits r)) e;
                label_is = same (sym (ap label_of e) ∙ first.begins);
                before = λ q p lt _. none p q (λ h. before q p lt (first.least p q h));
                least = λ p lt. none p r (λ h. less p lt (first.least p r h));
              },
            ) where
              some : ◌≡◌ {A = List Message} (m ∷ ms) [] → ⊥
              some z = cc

              same : ◌≡◌ {A = Option ℕ} (Some m.label) (Some label) → m.label ≡ label
              same z = cc

              before : (q p : ℕ) → q < r → (r < q) ⊎ ((r ≡ q) × (from ≤ p)) → ⊥
              before q p lt (inl h) = omega (arith, lt, h)
              before q p lt (inr h) = let g : r ≡ q = h.0 in omega (arith, lt, g)

              less : (p : ℕ) → p < from → (r < r) ⊎ ((r ≡ r) × (from ≤ p)) → ⊥
              less p lt (inl h) = omega (arith, h)
              less p lt (inr h) = let g : from ≤ p = h.1 in omega (arith, lt, g)
