-- The theorem, from the invariant.
use Rattle.std.proofs.Common.{◌≡◌, ◌≢◌, ℕ, zero, suc, ◌+◌, ◌-◌, ◌<◌, ◌≤◌, Bool, true, false, ◌⊎◌, List, [], ◌∷◌, ◌++◌, length, map, filter_map, slice_get, Some, None, refl, sym, ap, ap₂, ◌∙◌, subst, inl, inr, append_assoc, append-nil, add_comm, le_refl, arith, length-append}
use Rattle.std.proofs.lemmas.List.{append_cancel_left, length-map}
use Rattle.std.proofs.lemmas.List.Elements.{filter_map-append}
use Rattle.std.proofs.lemmas.Option.{slice_get_within}
use Rattle.pb_world.specs.Actions.{Action, Choose, Run, Send, Recv, Enter, Leave, Collective, Enters, kind_of, of_rank, sent_to, received_from, entered_in, left_in, answers_of, IsPrefixOf, Covers}
use Rattle.pb_text.specs.declared.mode.Mode.TheVariants.{Eager}
use Rattle.pb_world.specs.Machine.{Does, Ended, Follows}
use Rattle.pb_world.specs.Family.{Family, Laws, IsInternal, choosing, running, each, Statement, nothing, message, joint}
use Rattle.pb_world.specs.World.{Message, content, World, AllEager, Takes, first, next_of, IsFree, silent, probe, internal, send, receive, enter, leave, CanStep}
use Rattle.pb_world.specs.Theorem.{IsSound, HasDone, IsWhole, AllRanks}
use Rattle.pb_world.proofs.Lists.{eqb_cases, picked, picks, prefix_trans, prefix_filter, prefix_both, prefix_get, get_end, no_elements, behind, not_before, begins_or_not, of_append, answered_self}
use Rattle.pb_world.proofs.Follow.{after_probe, after_act, never_lost, never_undefined}
use Rattle.pb_world.proofs.Sequential.{entry_of, exit_of, matched, rounds, later_steps, sent_head, internal_self, internal_other, message_sender, message_receiver, message_other, joint_of}
use Rattle.pb_world.proofs.Channels.{FitsFirst}
use Rattle.pb_world.proofs.Invariant.{IsAnsweredBy, Goes, Holds, over, more, ahead}
use Rattle.pb_world.proofs.Events.{holds}

no_cons : {A : Type 0} (u : List A) (c : A) (cs : List A) → [] ≡ u ++ c ∷ cs → ⊥
no_cons [] c cs e = cc
no_cons (x ∷ u) c cs e = cc

-- where one is left of one, none is done
single : {A : Type 0} (a : A) (u : List A) (c : A) (cs : List A) → a ∷ [] ≡ u ++ c ∷ cs → (u ≡ []) × (c ≡ a)
single a [] c cs e = (refl, cc)
single a (x ∷ u) c cs e = let t : [] ≡ u ++ c ∷ cs = cc in absurd (no_cons u c cs t)

-- where one or two are left of two, none or one is done
pair_left : {A : Type 0} (a b : A) (u : List A) (c : A) (cs : List A) → a ∷ b ∷ [] ≡ u ++ c ∷ cs → ((u ≡ []) × (c ≡ a)) ⊎ ((u ≡ a ∷ []) × (c ≡ b))
pair_left a b [] c cs e = inl (refl, cc)
pair_left a b (x ∷ u) c cs e =
    let t : b ∷ [] ≡ u ++ c ∷ cs = cc in
    let h = single b u c cs t in
    let x_is : x ≡ a = cc in
    inr (ap₂ (λ y l. y ∷ l) x_is h.0, h.1)

cons_content : (c : ℕ × List ℕ) (cs : List (ℕ × List ℕ)) (ms : List Message) → c ∷ cs ≡ map content ms → (m : Message) × (rest : List Message) × (ms ≡ m ∷ rest) × (content m ≡ c)
cons_content c cs [] e = cc
cons_content c cs (m ∷ ms) e = (m, ms, refl, cc)

is_enter : (j : Collective) (a : Action) → kind_of a ≡ Enters j → (words : List ℕ) × (a ≡ Enter j words)
is_enter j (Enter i ws) e = (ws, let h : i ≡ j = cc in ap (λ x. Enter x ws) h)
is_enter j (Choose k n b) e = cc
is_enter j (Run k) e = cc
is_enter j (Send q m ws) e = cc
is_enter j (Recv q m ws) e = cc
is_enter j (Leave i ws) e = cc

module _ {S : Type 0} (F : Family S) (laws : Laws F) (w : List (ℕ × Action)) (W : World S) (inv : Holds F w W) where
  abbrev own : IsAnsweredBy F w (answers_of w)
  own r = answered_self (of_rank r w)

  begun : (m : ℕ) × Covers (F.run (answers_of w) m) w
  begun = inv.covered (answers_of w) own

  -- no rank goes wrong
  sound : (r : ℕ) → r < F.total → IsSound F W r
  sound r lt =
      let A = answers_of w in
      let go = ahead F laws w W inv A own r lt in
      let m = go.0 in
      let cov = go.1 in
      record {
        lost = elim go.2 [ over e f ↦ never_lost F.machine (F.allowed r) f | more b s e fits f ↦ never_lost F.machine (F.allowed r) f ];
        undefined = elim go.2 [ over e f ↦ never_undefined F.machine (F.allowed r) f | more b s e fits f ↦ never_undefined F.machine (F.allowed r) f ];
        tested = λ p msg rest is has none. elim go.2 [
          | over e f ↦ (let t = after_probe F.machine (F.allowed r) p f refl is in let no = t.is in cc)
          | more b s e fits f ↦
              let t = after_probe F.machine (F.allowed r) p f tt is in
              let head : b ≡ Recv p t.label t.words = let u = t.is in cc in
              let same = subst (λ x. FitsFirst W.channel r x) head fits msg rest has in
              let tag : msg.label ≡ t.label = ap (λ (c : ℕ × List ℕ). c.0) same in
              let no : None ≡ Some t.state = sym none ∙ ap (F.machine.read (W.state r)) tag ∙ t.reads in
              cc
        ];
        agrees = λ j is p lp entry there. elim go.2 [
          | over e f ↦ (let t = after_act F.machine (F.allowed r) (Enters j) f refl is in let no = t.is in cc)
          | more b s e fits f ↦
              let t = after_act F.machine (F.allowed r) (Enters j) f tt is in
              let head : t.action ≡ b = let u = t.is in cc in
              let shape = is_enter j b (ap kind_of (sym head) ∙ t.kind) in
              let all = rounds F laws.sequential A m in
              let before = filter_map entered_in (of_rank r w) in
              let line : map (entry_of r) all.0 ≡ before ++ (j, shape.0) ∷ filter_map entered_in s =
              sym (all.1 r lt).enters ∙ ap (filter_map entered_in) (e ∙ ap (λ x. of_rank r w ++ x ∷ s) shape.1) ∙ filter_map-append entered_in (of_rank r w) (Enter j shape.0 ∷ s) in
              let round = picked (entry_of r) all.0 (length before) (j, shape.0) (ap (λ l. slice_get l (length before)) line ∙ get_end before (j, shape.0) (filter_map entered_in s)) in
              let x = round.0 in
              let there' : slice_get (filter_map entered_in (of_rank p w)) (length before) ≡ Some entry = ap₂ (λ l i. slice_get l i) (sym (inv.entries p)) (ap length (sym (inv.entries r))) ∙ there in
              let mine : Some (entry_of p x) ≡ Some entry = sym (picks (entry_of p) all.0 (length before) x round.1) ∙ ap (λ l. slice_get l (length before)) (sym (all.1 p lp).enters) ∙ prefix_get _ _ (length before) entry (prefix_filter entered_in _ _ (cov p)) there' in
              let pair : entry_of p x ≡ entry = cc in
              ap (λ (y : Collective × List ℕ). y.0) (sym pair) ∙ ap (λ (y : Collective × List ℕ). y.0) round.2
        ];
      }

  -- what an action of another rank's making needs is there
  abbrev Enabled : ℕ → Action → Type 0
  Enabled r (Recv p l ws) = (m : Message) × (rest : List Message) × (W.channel p r ≡ m ∷ rest) × (content m ≡ (l, ws))
  Enabled r (Leave j ws) = (words : ℕ → List ℕ) × ((p : ℕ) → p < F.total → slice_get (W.entered p) (W.left r) ≡ Some (j, words p))
  Enabled r (Choose k n b) = Unit {0}
  Enabled r (Run k) = Unit {0}
  Enabled r (Send q l ws) = Unit {0}
  Enabled r (Enter j ws) = Unit {0}

  enabled_fits : (r : ℕ) (a : Action) → Enabled r a → FitsFirst W.channel r a
  enabled_fits r (Recv p l ws) en = λ m rest is. let h = en.2 in let same : m ≡ en.0 = cc in ap content same ∙ en.3
  enabled_fits r (Choose k n b) en = tt
  enabled_fits r (Run k) en = tt
  enabled_fits r (Send q l ws) en = tt
  enabled_fits r (Enter j ws) en = tt
  enabled_fits r (Leave j ws) en = tt

  act_steps : (r : ℕ) (a : Action) → IsFree F W r → IsSound F W r → Enabled r a → next_of F W r ≡ Does (kind_of a) → F.allowed r a ≡ true → CanStep F W r
  act_steps r (Choose k n b) free ok en is fine = (_, _, internal free is choosing fine)
  act_steps r (Run k) free ok en is fine = (_, _, internal free is running fine)
  act_steps r (Send q l ws) free ok en is fine = (_, _, send Eager free is fine)
  act_steps r (Recv p l ws) free ok en is fine =
      let tag : en.0.label ≡ l = ap (λ (c : ℕ × List ℕ). c.0) en.3 in
      (_, _, receive free is (subst (λ ms. Takes l ms en.0 en.1) (sym en.2) (first tag)))
  act_steps r (Enter j ws) free ok en is fine = (_, _, enter Eager free is (ok.agrees j is) fine)
  act_steps r (Leave j ws) free ok en is fine =
      (_, _, leave en.0 free is (λ p lp needed. en.1 p lp) (λ patient p lp. slice_get_within (W.entered p) (W.left r) (j, en.0 p) (en.1 p lp)))

  -- a rank whose next action has what it needs has a step
  can_step : (r : ℕ) (x : S) (a : Action) (s : List Action) (ends : Bool) → W.state r ≡ x → IsFree F W r → IsSound F W r → Enabled r a → Goes F r x (a ∷ s) ends → CanStep F W r
  can_step r x a s ends e free ok en (Follows.silent is f) = (_, _, silent free (ap F.machine.next e ∙ is))
  can_step r x a s ends e free ok en (Follows.act is fine f) = act_steps r a free ok en (ap F.machine.next e ∙ is) fine
  can_step r x a s ends e free ok en (Follows.probe {p = p} {label = l} {words = ws} is reads f) =
      (_, _, probe free (ap F.machine.next e ∙ is) en.2 (ap₂ (λ y n. F.machine.read y n) e (ap (λ (c : ℕ × List ℕ). c.0) en.3) ∙ reads))

  -- a list of messages is empty where the sender has sent no more than in some steps, and the receiver has done them
  channel_empty : (n q x : ℕ) → filter_map (sent_to x) (of_rank q w) ≡ filter_map (sent_to x) (of_rank q (F.run (answers_of w) n)) → HasDone F w n x → W.channel q x ≡ []
  channel_empty n q x no_more done =
      let A = answers_of w in
      let received : filter_map (received_from q) (of_rank x w) ≡ filter_map (sent_to x) (of_rank q (F.run A n)) ++ filter_map (received_from q) done.0 =
      ap (filter_map (received_from q)) (sym done.1) ∙ filter_map-append (received_from q) (of_rank x (F.run A n)) done.0 ∙ ap (λ l. l ++ filter_map (received_from q) done.0) (matched F laws.sequential A n q x) in
      let one = ap length (sym no_more ∙ inv.held q x) in
      let two = ap length received in
      let none : length (W.channel q x) ≡ 0 =
      omega (arith, one, two, length-append (filter_map (received_from q) (of_rank x w)) (map content (W.channel q x)), length-append (filter_map (sent_to x) (of_rank q (F.run A n))) (filter_map (received_from q) done.0), length-map (W.channel q x) content) in
      no_elements (W.channel q x) none

  abbrev Left : ℕ → Type 0
  Left m = (q : ℕ) × (q < F.total) × (¬ HasDone F w m q) × CanStep F W q

  -- all ranks have done the first n steps, and the next one has these actions
  module _ (n : ℕ) (done : (q : ℕ) → q < F.total → HasDone F w n q) (st : List (ℕ × Action)) (is_next : F.run (answers_of w) (suc n) ≡ F.run (answers_of w) n ++ st) where
    next_of_rank : (q : ℕ) → of_rank q (F.run (answers_of w) (suc n)) ≡ of_rank q (F.run (answers_of w) n) ++ of_rank q st
    next_of_rank q = ap (of_rank q) is_next ∙ of_append q (F.run (answers_of w) n) st

    -- a rank has done its actions of the next step, or is at one of them
    place : (q : ℕ) (lt : q < F.total) → HasDone F w (suc n) q ⊎ ((c : Action) × (cs : List Action) × (of_rank q st ≡ (done q lt).0 ++ c ∷ cs))
    place q lt =
        let A = answers_of w in
        let u = (done q lt).0 in
        let far = prefix_trans _ _ _ (begun.1 q) (later_steps F laws.sequential A begun.0 (suc n) q) in
        let near = later_steps F laws.sequential A (suc n) begun.0 q in
        let past = of_rank q (F.run A n) in
        let both : past ++ (u ++ far.0) ≡ past ++ (of_rank q st ++ near.0) =
        sym (append_assoc past u far.0) ∙ ap (λ l. l ++ far.0) (done q lt).1 ∙ far.1 ∙ ap (λ k. of_rank q (F.run A k)) (add_comm (suc n) begun.0) ∙ sym near.1 ∙ ap (λ l. l ++ near.0) (next_of_rank q) ∙ append_assoc past (of_rank q st) near.0 in
        elim (behind u far.0 (of_rank q st) near.0 (append_cancel_left past _ _ both)) [
          | inl p ↦ inl (p.0, ap (λ l. l ++ p.0) (next_of_rank q) ∙ append_assoc past (of_rank q st) p.0 ∙ ap (λ l. past ++ l) p.1 ∙ (done q lt).1)
          | inr h ↦ inr h
        ]

    line : (q : ℕ) (lt : q < F.total) (c : Action) (cs : List Action) → of_rank q st ≡ (done q lt).0 ++ c ∷ cs → of_rank q (F.run (answers_of w) (suc n)) ≡ of_rank q w ++ c ∷ cs
    line q lt c cs e =
        let past = of_rank q (F.run (answers_of w) n) in
        next_of_rank q ∙ ap (λ l. past ++ l) e ∙ sym (append_assoc past (done q lt).0 (c ∷ cs)) ∙ ap (λ l. l ++ c ∷ cs) (done q lt).1

    -- such a rank has a step, where it has sent nothing of the next step and has what it needs
    left_at : (q : ℕ) (lt : q < F.total) (c : Action) (cs : List Action) → of_rank q st ≡ (done q lt).0 ++ c ∷ cs → ((x : ℕ) → filter_map (sent_to x) (done q lt).0 ≡ []) → Enabled q c → Left (suc n)
    left_at q lt c cs e quiet en =
        let A = answers_of w in
        let sends : (x : ℕ) → filter_map (sent_to x) (of_rank q w) ≡ filter_map (sent_to x) (of_rank q (F.run A n)) = λ x.
        ap (filter_map (sent_to x)) (sym (done q lt).1) ∙ filter_map-append (sent_to x) (of_rank q (F.run A n)) (done q lt).0 ∙ ap (λ l. filter_map (sent_to x) (of_rank q (F.run A n)) ++ l) (quiet x) ∙ append-nil _ in
        let free : IsFree F W q = record { within = lt; none = λ x lx. subst AllEager (sym (channel_empty n q x (sends x) (done x lx))) tt } in
        let goes = inv.stood q lt (c ∷ cs) false tt (enabled_fits q c en) (subst (λ l. Goes F q (F.start q) l false) (line q lt c cs e) (laws.follows A (suc n) q lt)) in
        (q, lt, (λ p. not_before (of_rank q w) c cs (subst (λ l. IsPrefixOf l (of_rank q w)) (line q lt c cs e) p)), can_step q (W.state q) c cs false refl free (sound q lt) en goes)

    -- where the next step gives a rank nothing, it has done it
    none_left : (q : ℕ) (lt : q < F.total) → of_rank q st ≡ [] → HasDone F w (suc n) q
    none_left q lt e =
        elim (place q lt) [
          | inl d ↦ d
          | inr h ↦ absurd (no_cons (done q lt).0 h.0 h.1 (sym e ∙ h.2))
        ]

    -- a rank with one action, of those that send nothing before it
    one_left : (q : ℕ) (lt : q < F.total) (a : Action) → of_rank q st ≡ a ∷ [] → ((of_rank q w ≡ of_rank q (F.run (answers_of w) n)) → Enabled q a) → HasDone F w (suc n) q ⊎ Left (suc n)
    one_left q lt a e en =
        elim (place q lt) [
          | inl d ↦ inl d
          | inr h ↦
              let s = single a (done q lt).0 h.0 h.1 (sym e ∙ h.2) in
              let same : of_rank q w ≡ of_rank q (F.run (answers_of w) n) = sym (done q lt).1 ∙ ap (λ l. of_rank q (F.run (answers_of w) n) ++ l) s.0 ∙ append-nil _ in
              inr (left_at q lt h.0 h.1 h.2 (λ x. ap (filter_map (sent_to x)) s.0) (subst (λ c. Enabled q c) (sym s.1) (en same)))
        ]

    internal_left : (q : ℕ) (a : Action) → IsInternal a → st ≡ (q, a) ∷ [] → (r : ℕ) → r < F.total → ¬ HasDone F w (suc n) r → Left (suc n)
    internal_left q a al e r lt not =
        elim (eqb_cases q r) [
          | inl y ↦
              let mine : of_rank r st ≡ a ∷ [] = ap (of_rank r) e ∙ subst (λ k. of_rank k ((q, a) ∷ []) ≡ a ∷ []) y.0 (internal_self q a) in
              elim (one_left r lt a mine (λ same. internal_enabled r a al)) [ inl d ↦ absurd (not d) | inr h ↦ h ]
          | inr y ↦ absurd (not (none_left r lt (ap (of_rank r) e ∙ internal_other q r a y.0)))
        ]
      where
        internal_enabled : (r : ℕ) (a : Action) → IsInternal a → Enabled r a
        internal_enabled r a choosing = tt
        internal_enabled r a running = tt

    -- the receiver's message is there, once the sender has done its part
    message_there : (p q l : ℕ) (ws : List ℕ) → of_rank p st ≡ Send q l ws ∷ [] → HasDone F w (suc n) p → of_rank q w ≡ of_rank q (F.run (answers_of w) n) → Enabled q (Recv p l ws)
    message_there p q l ws e d same =
        let A = answers_of w in
        let sends = filter_map (sent_to q) (of_rank p (F.run A n)) in
        let sent : filter_map (sent_to q) (of_rank p w) ≡ sends ++ (l, ws) ∷ filter_map (sent_to q) d.0 =
        ap (filter_map (sent_to q)) (sym d.1 ∙ ap (λ k. k ++ d.0) (next_of_rank p ∙ ap (λ k. of_rank p (F.run A n) ++ k) e) ∙ append_assoc (of_rank p (F.run A n)) (Send q l ws ∷ []) d.0)
        ∙ filter_map-append (sent_to q) (of_rank p (F.run A n)) (Send q l ws ∷ d.0) ∙ ap (λ k. sends ++ k) (sent_head q l ws d.0) in
        let received : filter_map (received_from p) (of_rank q w) ≡ sends = ap (filter_map (received_from p)) same ∙ matched F laws.sequential A n p q in
        let there : (l, ws) ∷ filter_map (sent_to q) d.0 ≡ map content (W.channel p q) =
        append_cancel_left sends _ _ (sym sent ∙ inv.held p q ∙ ap (λ k. k ++ map content (W.channel p q)) received) in
        cons_content (l, ws) (filter_map (sent_to q) d.0) (W.channel p q) there

    message_left : (p q l : ℕ) (ws : List ℕ) → p < F.total → q < F.total → p ≢ q → st ≡ (p, Send q l ws) ∷ (q, Recv p l ws) ∷ [] → (r : ℕ) → r < F.total → ¬ HasDone F w (suc n) r → Left (suc n)
    message_left p q l ws lp lq ne e r lt not =
        let sender : of_rank p st ≡ Send q l ws ∷ [] = ap (of_rank p) e ∙ message_sender p q l ws ne in
        let receiver : of_rank q st ≡ Recv p l ws ∷ [] = ap (of_rank q) e ∙ message_receiver p q l ws ne in
        elim (one_left p lp (Send q l ws) sender (λ same. tt)) [
          | inr h ↦ h
          | inl d ↦ elim (one_left q lq (Recv p l ws) receiver (λ same. message_there p q l ws sender d same)) [
            | inr h ↦ h
            | inl d' ↦ elim (eqb_cases p r) [
              | inl y ↦ absurd (not (subst (λ k. HasDone F w (suc n) k) y.0 d))
              | inr y ↦ elim (eqb_cases q r) [
                | inl z ↦ absurd (not (subst (λ k. HasDone F w (suc n) k) z.0 d'))
                | inr z ↦ absurd (not (none_left r lt (ap (of_rank r) e ∙ message_other p q l ws r y.0 z.0)))
              ]
            ]
          ]
        ]

    module _ (j : Collective) (f : ℕ → List ℕ) (e : st ≡ each F.total (λ p. Enter j (f p)) ++ each F.total (λ p. Leave j (F.outcome j p f))) where
      both_of : (r : ℕ) → r < F.total → of_rank r st ≡ Enter j (f r) ∷ Leave j (F.outcome j r f) ∷ []
      both_of r lt = ap (of_rank r) e ∙ joint_of F j f r lt

      abbrev Entered : ℕ → Type 0
      Entered p = (more : List Action) × (of_rank p w ≡ of_rank p (F.run (answers_of w) n) ++ Enter j (f p) ∷ more)

      enter_or : (p : ℕ) → p < F.total → Entered p ⊎ Left (suc n)
      enter_or p lp =
          let past = of_rank p (F.run (answers_of w) n) in
          elim (place p lp) [
            | inl d ↦ inl (Leave j (F.outcome j p f) ∷ d.0, sym d.1 ∙ ap (λ l. l ++ d.0) (next_of_rank p ∙ ap (λ l. past ++ l) (both_of p lp)) ∙ append_assoc past (Enter j (f p) ∷ Leave j (F.outcome j p f) ∷ []) d.0)
            | inr h ↦ elim (pair_left _ _ (done p lp).0 h.0 h.1 (sym (both_of p lp) ∙ h.2)) [
              | inl s ↦ inr (left_at p lp h.0 h.1 h.2 (λ x. ap (filter_map (sent_to x)) s.0) (subst (λ c. Enabled p c) (sym s.1) tt))
              | inr s ↦ inl ([], sym (done p lp).1 ∙ ap (λ l. past ++ l) s.0)
            ]
          ]

      all_entered : (k : ℕ) → k ≤ F.total → ((p : ℕ) → p < k → Entered p) ⊎ Left (suc n)
      all_entered zero le = inl (λ p h. absurd (omega arith))
      all_entered (suc k) le =
          elim (all_entered k (omega arith)) [
            | inr h ↦ inr h
            | inl all ↦ elim (enter_or k (omega arith)) [
              | inr h ↦ inr h
              | inl here ↦ inl (λ p h. elim (eqb_cases p k) [ inl y ↦ subst Entered (sym y.0) here | inr y ↦ all p (let ne = y.0 in omega arith) ])
            ]
          ]

      leave_enabled : (r : ℕ) → r < F.total → ((p : ℕ) → p < F.total → Entered p) → of_rank r w ≡ of_rank r (F.run (answers_of w) n) ++ Enter j (f r) ∷ [] → Enabled r (Leave j (F.outcome j r f))
      leave_enabled r lt all mine =
          let A = answers_of w in
          let R = rounds F laws.sequential A n in
          let exits : W.left r ≡ length R.0 =
          inv.exits r ∙ ap length (ap (filter_map left_in) mine ∙ filter_map-append left_in (of_rank r (F.run A n)) (Enter j (f r) ∷ []) ∙ append-nil _ ∙ (R.1 r lt).leaves) ∙ length-map R.0 (exit_of F r) in (
            f,
            λ p lp.
                let past = filter_map entered_in (of_rank p (F.run A n)) in
                let entries : W.entered p ≡ past ++ (j, f p) ∷ filter_map entered_in (all p lp).0 =
                inv.entries p ∙ ap (filter_map entered_in) (all p lp).1 ∙ filter_map-append entered_in (of_rank p (F.run A n)) (Enter j (f p) ∷ (all p lp).0) in
                let size : length past ≡ length R.0 = ap length (R.1 p lp).enters ∙ length-map R.0 (entry_of p) in
                ap₂ (λ l i. slice_get l i) entries (exits ∙ sym size) ∙ get_end past (j, f p) (filter_map entered_in (all p lp).0),
          )

      joint_left : (r : ℕ) → r < F.total → ¬ HasDone F w (suc n) r → Left (suc n)
      joint_left r lt not =
          elim (all_entered F.total (le_refl F.total)) [
            | inr h ↦ h
            | inl all ↦ elim (place r lt) [
              | inl d ↦ absurd (not d)
              | inr h ↦ elim (pair_left _ _ (done r lt).0 h.0 h.1 (sym (both_of r lt) ∙ h.2)) [
                | inl s ↦ left_at r lt h.0 h.1 h.2 (λ x. ap (filter_map (sent_to x)) s.0) (subst (λ c. Enabled r c) (sym s.1) tt)
                | inr s ↦
                    left_at r lt h.0 h.1 h.2 (λ x. ap (filter_map (sent_to x)) s.0)
                    (subst (λ c. Enabled r c) (sym s.1) (leave_enabled r lt all (sym (done r lt).1 ∙ ap (λ l. of_rank r (F.run (answers_of w) n) ++ l) s.0)))
              ]
            ]
          ]

  step_left : (n : ℕ) → ((q : ℕ) → q < F.total → HasDone F w n q) → (st : List (ℕ × Action)) → Statement F st → F.run (answers_of w) (suc n) ≡ F.run (answers_of w) n ++ st → (r : ℕ) → r < F.total → ¬ HasDone F w (suc n) r → Left (suc n)
  step_left n done st nothing is_next r lt not = absurd (not (none_left n done st is_next r lt refl))
  step_left n done st (Statement.internal {r = q} {a = a} h al) is_next r lt not = internal_left n done st is_next q a al refl r lt not
  step_left n done st (message {p = p} {q = q} {label = l} {words = ws} hp hq ne) is_next r lt not = message_left n done st is_next p q l ws hp hq ne refl r lt not
  step_left n done st (joint j f) is_next r lt not = joint_left n done st is_next j f refl r lt not

  none_at_start : (r : ℕ) → HasDone F w zero r
  none_at_start r = (of_rank r w, ap (λ g. of_rank r g ++ of_rank r w) (laws.sequential.starts (answers_of w)))

  progress : (m : ℕ) → ((k r : ℕ) → k < m → r < F.total → HasDone F w k r) → (r : ℕ) → r < F.total → ¬ HasDone F w m r → Left m
  progress zero below r lt not = absurd (not (none_at_start r))
  progress (suc n) below r lt not =
      let st = laws.sequential.steps (answers_of w) n in
      step_left n (λ q lq. below n q (omega arith) lq) st.0 st.1 st.2 r lt not

  -- the rank has done the steps, or not
  done_or_not : (m r : ℕ) → r < F.total → HasDone F w m r ⊎ (¬ HasDone F w m r)
  done_or_not m r lt =
      let A = answers_of w in
      let far = later_steps F laws.sequential A m begun.0 r in
      let near = prefix_trans _ _ _ (begun.1 r) (later_steps F laws.sequential A begun.0 m r) in
      let far' = subst (λ k. IsPrefixOf (of_rank r (F.run A m)) (of_rank r (F.run A k))) (add_comm begun.0 m) far in
      elim (begins_or_not (of_rank r (F.run A m)) (of_rank r w) (of_rank r (F.run A (m + begun.0))) far' near) [
        | inl d ↦ inl d
        | inr h ↦ inr (λ d. not_before (of_rank r w) h.0 h.1 (subst (λ l. IsPrefixOf l (of_rank r w)) h.2 d))
      ]

  module _ (stuck : (r : ℕ) → r < F.total → ¬ CanStep F W r) where
    all_below : (m k r : ℕ) → k < m → r < F.total → HasDone F w k r
    all_below zero k r h lt = absurd (omega arith)
    all_below (suc m) k r h lt =
        elim (eqb_cases k m) [
          | inr y ↦ all_below m k r (let ne = y.0 in omega arith) lt
          | inl y ↦ subst (λ i. HasDone F w i r) (sym y.0) (
              elim (done_or_not m r lt) [
                | inl d ↦ d
                | inr not ↦ (let q = progress m (λ i q. all_below m i q) r lt not in absurd (stuck q.0 q.1 q.3))
              ])
        ]

    all_done : (m r : ℕ) → r < F.total → HasDone F w m r
    all_done m r lt = all_below (suc m) m r (omega arith) lt

    -- from some step on, what the sequential run does is what was done
    at_end : (m r : ℕ) → begun.0 ≤ m → r < F.total → of_rank r (F.run (answers_of w) m) ≡ of_rank r w
    at_end m r le lt =
        let A = answers_of w in
        let k : m - begun.0 + begun.0 ≡ m = omega arith in
        let more = subst (λ i. IsPrefixOf (of_rank r w) (of_rank r (F.run A i))) k (prefix_trans _ _ _ (begun.1 r) (later_steps F laws.sequential A begun.0 (m - begun.0) r)) in
        prefix_both _ _ (all_done m r lt) more

    all_empty : (p q : ℕ) → p < F.total → q < F.total → W.channel p q ≡ []
    all_empty p q lp lq = channel_empty begun.0 p q (ap (filter_map (sent_to q)) (sym (at_end begun.0 p (le_refl _) lp))) (all_done begun.0 q lq)

    over_ends : (r : ℕ) (x : S) → W.state r ≡ x → r < F.total → Goes F r x [] true → F.machine.next x ≡ Ended
    over_ends r x e lt (Follows.ended is) = is
    over_ends r x e lt (Follows.silent is f) =
        let free : IsFree F W r = record { within = lt; none = λ q lq. subst AllEager (sym (all_empty r q lt lq)) tt } in
        absurd (stuck r lt (_, _, silent free (ap F.machine.next e ∙ is)))

    all_ended : (r : ℕ) → r < F.total → next_of F W r ≡ Ended
    all_ended r lt =
        let A = answers_of w in
        let same = at_end begun.0 r (le_refl _) lt in
        elim (laws.goes_on A begun.0 r lt) [
          | inl f ↦ over_ends r (W.state r) refl lt (inv.stood r lt [] true refl tt (subst (λ l. Goes F r (F.start r) l true) (same ∙ sym (append-nil _)) f))
          | inr h ↦ absurd (not_before (of_rank r w) h.1 h.2 (subst (λ l. IsPrefixOf l (of_rank r w)) (h.3 ∙ ap (λ l. l ++ h.1 ∷ h.2) same) (all_done h.0 r lt)))
        ]

    whole : IsWhole F w W
    whole =
        let A = answers_of w in
        let at_step : (n : ℕ) → begun.0 ≤ n → F.over A n ≡ true → IsWhole F w W = λ n le is_over. record {
          ended = all_ended;
          empty = all_empty;
          steps = n;
          over = is_over;
          all = λ m r le' lt. at_end m r (omega arith) lt;
        } in
        elim (laws.goes_over A begun.0) [
          | inl h ↦ at_step h.0 h.1 h.2
          | inr h ↦ absurd (not_before (of_rank h.1 w) h.2 h.3 (subst (λ l. IsPrefixOf l (of_rank h.1 w)) (h.5 ∙ ap (λ l. l ++ h.2 ∷ h.3) (at_end begun.0 h.1 (le_refl _) h.4)) (all_done h.0 h.1 h.4)))
        ]

pub all_ranks : {S : Type 0} (F : Family S) → Laws F → AllRanks F
all_ranks F laws = record {
  covered = λ w W reached. begun F laws w W (holds F laws w W reached);
  sound = λ w W reached. sound F laws w W (holds F laws w W reached);
  progress = λ w W reached. progress F laws w W (holds F laws w W reached);
  whole = λ w W reached stuck. whole F laws w W (holds F laws w W reached) stuck;
}
