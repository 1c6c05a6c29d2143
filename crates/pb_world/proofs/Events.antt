-- Each event keeps the invariant.
use Rattle.std.proofs.Common.{◌≡◌, ◌≢◌, ℕ, suc, ◌<◌, Bool, true, List, [], ◌∷◌, ◌++◌, length, map, filter_map, slice_get, Option, Some, None, refl, sym, ap, ap₂, ◌∙◌, subst, inl, inr, append-nil, arith, length-append}
use Rattle.std.proofs.lemmas.List.Elements.{filter_map-append}
use Rattle.pb_text.specs.declared.mode.Mode.{Mode}
use Rattle.pb_world.specs.Actions.{Action, Choose, Run, Send, Recv, Enter, Leave, Collective, Sends, Receives, Enters, Leaves, kind_of, of_rank, sent_to, received_from, entered_in, left_in, AnswerTable, answers_of, IsAnswered, IsPrefixOf, Covers}
use Rattle.pb_world.specs.Machine.{Silent, Does, Probe}
use Rattle.pb_world.specs.Family.{Family, Laws, IsInternal, choosing, running, IsOwn, own_internal, own_send, own_enter}
use Rattle.pb_world.specs.World.{Message, content, World, updated, Takes, next_of, HasEntered, moved, posted, taken, inside, outside, Step, silent, probe, internal, send, receive, enter, leave, Reached, start, event}
use Rattle.pb_world.proofs.Lists.{eqb_cases, at_same, at_other, at2_same, at2_row, at2_place, seen, elsewhere, unseen, picked, picks, prefix_refl, prefix_filter, prefix_get, get_end, of_more, of_other, of_append, last_first, answered_before, answered_self}
use Rattle.pb_world.proofs.Follow.{IsReal, after_silent, after_probe, after_act, after_this}
use Rattle.pb_world.proofs.Sequential.{entry_of, exit_of, rounds}
use Rattle.pb_world.proofs.Channels.{FitsFirst, FitsAt, takes_first, fits_covered, kept_unseen, kept_send, kept_receive}
use Rattle.pb_world.proofs.Invariant.{IsAnsweredBy, Goes, Holds, holds_first, over, more, ahead}

-- an action of a kind
is_receive : (p l : ℕ) (a : Action) → kind_of a ≡ Receives p l → (words : List ℕ) × (a ≡ Recv p l words)
is_receive p l (Recv p' l' ws) e = (ws, let i : p' ≡ p = cc in let j : l' ≡ l = cc in ap₂ (λ x y. Recv x y ws) i j)
is_receive p l (Choose k n b) e = cc
is_receive p l (Run k) e = cc
is_receive p l (Send q m ws) e = cc
is_receive p l (Enter j ws) e = cc
is_receive p l (Leave j ws) e = cc

is_leave : (j : Collective) (a : Action) → kind_of a ≡ Leaves j → (words : List ℕ) × (a ≡ Leave j words)
is_leave j (Leave i ws) e = (ws, let h : i ≡ j = cc in ap (λ x. Leave x ws) h)
is_leave j (Choose k n b) e = cc
is_leave j (Run k) e = cc
is_leave j (Send q m ws) e = cc
is_leave j (Recv q m ws) e = cc
is_leave j (Enter i ws) e = cc

module _ {S : Type 0} (F : Family S) (laws : Laws F) (w : List (ℕ × Action)) (W : World S) (inv : Holds F w W) where
  -- a step that shows nothing
  holds_moved : (r : ℕ) → r < F.total → (y : S) → ((s : List Action) (ends : Bool) → IsReal s ends → FitsAt W.channel r s → Goes F r (W.state r) s ends → Goes F r y s ends) → Holds F w (moved F W r y)
  holds_moved r lt y on = record {
    covered = inv.covered;
    stood = λ q h s ends real fits f.
        let old = inv.stood q h s ends real fits f in
        elim (eqb_cases q r) [
          | inl e ↦
              let here = on s ends real (subst (λ n. FitsAt W.channel n s) e.0 fits) (subst (λ n. Goes F n (W.state n) s ends) e.0 old) in
              subst (λ n. Goes F n (updated W.state r y n) s ends) (sym e.0) (subst (λ x. Goes F r x s ends) (sym (at_same W.state r y)) here)
          | inr e ↦ subst (λ x. Goes F q x s ends) (sym (at_other W.state r y q e.0)) old
        ];
    held = inv.held;
    entries = inv.entries;
    exits = inv.exits;
  }

  holds_silent : (r : ℕ) → r < F.total → next_of F W r ≡ Silent → Holds F w (moved F W r (F.machine.quiet (W.state r)))
  holds_silent r lt is = holds_moved r lt _ (λ s ends real fits f. after_silent F.machine (F.allowed r) f is)

  holds_probe : (r : ℕ) → r < F.total → (p : ℕ) (m : Message) (rest : List Message) (y : S) → next_of F W r ≡ Probe p → W.channel p r ≡ m ∷ rest → F.machine.read (W.state r) m.label ≡ Some y → Holds F w (moved F W r y)
  holds_probe r lt p m rest y is has reads =
      holds_moved r lt y (λ s ends real fits f.
      let t = after_probe F.machine (F.allowed r) p f real is in
      let fits' = subst (λ l. FitsAt W.channel r l) t.is fits in
      let same = fits' m rest has in
      let tag : m.label ≡ t.label = ap (λ (c : ℕ × List ℕ). c.0) same in
      let one : Some y ≡ Some t.state = sym reads ∙ ap (F.machine.read (W.state r)) tag ∙ t.reads in
      let is' : t.state ≡ y = cc in
      subst (λ x. Goes F r x s ends) is' t.goes)

  -- an action goes on with the sequential run, where it agrees with the one there
  covered_act : (r : ℕ) → r < F.total → (a : Action) → next_of F W r ≡ Does (kind_of a) → ((A : AnswerTable) → IsAnsweredBy F (w ++ (r, a) ∷ []) A → (m : ℕ) → Covers (F.run A m) w → (b : Action) (s : List Action) → of_rank r (F.run A m) ≡ of_rank r w ++ b ∷ s → kind_of b ≡ kind_of a → b ≡ a) → (A : AnswerTable) → IsAnsweredBy F (w ++ (r, a) ∷ []) A → (m : ℕ) × Covers (F.run A m) (w ++ (r, a) ∷ [])
  covered_act r lt a is agree A h =
      let h' : IsAnsweredBy F w A = λ q. answered_before (of_rank q w) (of_rank q ((r, a) ∷ [])) (A q) (subst (λ l. IsAnswered l (A q)) (of_append q w ((r, a) ∷ [])) (h q)) in
      let go = ahead F laws w W inv A h' r lt in (
        go.0,
        λ q. elim go.2 [
          | over e f ↦ (let t = after_act F.machine (F.allowed r) (kind_of a) f refl is in let no = t.is in cc)
          | more b s e fits f ↦
              let t = after_act F.machine (F.allowed r) (kind_of a) f tt is in
              let first : t.action ≡ b = let u = t.is in cc in
              let same : b ≡ a = agree A h go.0 go.1 b s e (ap kind_of (sym first) ∙ t.kind) in
              elim (eqb_cases q r) [
                | inl y ↦ subst (λ n. IsPrefixOf (of_rank n (w ++ (r, a) ∷ [])) (of_rank n (F.run A go.0))) (sym y.0)
                    (s, ap (λ l. l ++ s) (of_more w r a) ∙ last_first (of_rank r w) a s ∙ ap (λ x. of_rank r w ++ x ∷ s) (sym same) ∙ sym e)
                | inr y ↦ subst (λ l. IsPrefixOf l (of_rank q (F.run A go.0))) (sym (of_other w r q a y.0)) (go.1 q)
              ]
        ],
      )

  -- the words of an action of its own are those of the table
  own_agrees : (r : ℕ) → r < F.total → (a : Action) → IsOwn a → F.allowed r a ≡ true → (A : AnswerTable) → IsAnsweredBy F (w ++ (r, a) ∷ []) A → (m : ℕ) → Covers (F.run A m) w → (b : Action) (s : List Action) → of_rank r (F.run A m) ≡ of_rank r w ++ b ∷ s → kind_of b ≡ kind_of a → b ≡ a
  own_agrees r lt a own al A h m cov b s e k = laws.answered A m r (of_rank r w) b s a lt e k own al (subst (λ l. IsAnswered l (A r)) (of_more w r a) (h r))

  stood_act : (r : ℕ) → r < F.total → (a : Action) → next_of F W r ≡ Does (kind_of a) → FitsFirst W.channel r a → (V : World S) → ((q : ℕ) → V.state q ≡ updated W.state r (F.machine.act (W.state r) a) q) → ((q : ℕ) → q ≢ r → (s : List Action) → FitsAt V.channel q s → FitsAt W.channel q s) → (q : ℕ) → q < F.total → (s : List Action) (ends : Bool) → IsReal s ends → FitsAt V.channel q s → Goes F q (F.start q) (of_rank q (w ++ (r, a) ∷ []) ++ s) ends → Goes F q (V.state q) s ends
  stood_act r lt a is fits V st back q h s ends real fits' f =
      let y : S = F.machine.act (W.state r) a in
      elim (eqb_cases q r) [
        | inl e ↦
            let f' = subst (λ n. Goes F n (F.start n) (of_rank n (w ++ (r, a) ∷ []) ++ s) ends) e.0 f in
            let f'' = subst (λ l. Goes F r (F.start r) l ends) (ap (λ l. l ++ s) (of_more w r a) ∙ last_first (of_rank r w) a s) f' in
            let here = after_this F.machine (F.allowed r) (kind_of a) (inv.stood r lt (a ∷ s) ends tt fits f'') is in
            subst (λ n. Goes F n (V.state n) s ends) (sym e.0) (subst (λ x. Goes F r x s ends) (sym (at_same W.state r y) ∙ sym (st r)) here)
        | inr e ↦
            let f' = subst (λ l. Goes F q (F.start q) (l ++ s) ends) (of_other w r q a e.0) f in
            subst (λ x. Goes F q x s ends) (sym (at_other W.state r y q e.0) ∙ sym (st q)) (inv.stood q h s ends real (back q e.0 s fits') f')
      ]

  -- a receive that fits longer lists fits shorter ones
  fits_back : (V : World S) (q : ℕ) → ((p : ℕ) → IsPrefixOf (W.channel p q) (V.channel p q)) → (s : List Action) → FitsAt V.channel q s → FitsAt W.channel q s
  fits_back V q h [] fits = tt
  fits_back V q h (Recv p l ws ∷ s) fits = λ m rest is. fits m (rest ++ (h p).0) (sym (h p).1 ∙ ap (λ t. t ++ (h p).0) is)
  fits_back V q h (Choose k n b ∷ s) fits = tt
  fits_back V q h (Run k ∷ s) fits = tt
  fits_back V q h (Send p l ws ∷ s) fits = tt
  fits_back V q h (Enter j ws ∷ s) fits = tt
  fits_back V q h (Leave j ws ∷ s) fits = tt

  internal_shows : {B : Type 0} (f : Action → Option B) (a : Action) → IsInternal a → ((k n b : ℕ) → f (Choose k n b) ≡ None) → ((k : ℕ) → f (Run k) ≡ None) → filter_map f (a ∷ []) ≡ []
  internal_shows f a (choosing {kernel = k} {branches = n} {branch = b}) hc hr = ap (λ (o : Option _). filter_map (λ (u : Option _). u) (o ∷ [])) (hc k n b)
  internal_shows f a (running {kernel = k}) hc hr = ap (λ (o : Option _). filter_map (λ (u : Option _). u) (o ∷ [])) (hr k)

  internal_fits : (r : ℕ) (a : Action) → IsInternal a → FitsFirst W.channel r a
  internal_fits r a choosing = tt
  internal_fits r a running = tt

  holds_alone : (r : ℕ) → r < F.total → (a : Action) → next_of F W r ≡ Does (kind_of a) → IsInternal a → F.allowed r a ≡ true → Holds F (w ++ (r, a) ∷ []) (moved F W r (F.machine.act (W.state r) a))
  holds_alone r lt a is al fine =
      let sends : (q : ℕ) → filter_map (sent_to q) (a ∷ []) ≡ [] = λ q. internal_shows (sent_to q) a al (λ k n b. refl) (λ k. refl) in
      let receives : (q : ℕ) → filter_map (received_from q) (a ∷ []) ≡ [] = λ q. internal_shows (received_from q) a al (λ k n b. refl) (λ k. refl) in
      record {
        covered = covered_act r lt a is (own_agrees r lt a (own_internal al) fine);
        stood = stood_act r lt a is (internal_fits r a al) (moved F W r (F.machine.act (W.state r) a)) (λ q. refl) (λ q ne s fits. fits_back (moved F W r (F.machine.act (W.state r) a)) q (λ p. prefix_refl _) s fits);
        held = kept_unseen w W.channel inv.held r a sends receives;
        entries = λ p. inv.entries p ∙ sym (unseen entered_in w r a p (internal_shows entered_in a al (λ k n b. refl) (λ k. refl)));
        exits = λ p. inv.exits p ∙ ap length (sym (unseen left_in w r a p (internal_shows left_in a al (λ k n b. refl) (λ k. refl))));
      }

  holds_send : (r : ℕ) → r < F.total → (q : ℕ) (l : ℕ) (ws : List ℕ) (m : Message) → content m ≡ (l, ws) → next_of F W r ≡ Does (Sends q l) → F.allowed r (Send q l ws) ≡ true → Holds F (w ++ (r, Send q l ws) ∷ []) (posted F W r (F.machine.act (W.state r) (Send q l ws)) q m)
  holds_send r lt q l ws m con is fine =
      let a : Action = Send q l ws in
      let V : World S = posted F W r (F.machine.act (W.state r) a) q m in
      let here : V.channel r q ≡ W.channel r q ++ m ∷ [] = at2_same W.channel r q (W.channel r q ++ m ∷ []) in
      let row : (p o : ℕ) → p ≢ r → V.channel p o ≡ W.channel p o = λ p o ne. at2_row W.channel r q (W.channel r q ++ m ∷ []) p o ne in
      let place : (p o : ℕ) → o ≢ q → V.channel p o ≡ W.channel p o = λ p o ne. at2_place W.channel r q (W.channel r q ++ m ∷ []) p o ne in
      let grows : (p o : ℕ) → IsPrefixOf (W.channel p o) (V.channel p o) = λ p o.
      elim (eqb_cases p r) [
        | inl e ↦ elim (eqb_cases o q) [
          | inl d ↦ subst (λ n. IsPrefixOf (W.channel n o) (V.channel n o)) (sym e.0) (subst (λ n. IsPrefixOf (W.channel r n) (V.channel r n)) (sym d.0) (m ∷ [], sym here))
          | inr d ↦ ([], append-nil _ ∙ sym (place p o d.0))
        ]
        | inr e ↦ ([], append-nil _ ∙ sym (row p o e.0))
      ] in
      record {
        covered = covered_act r lt a is (own_agrees r lt a own_send fine);
        stood = stood_act r lt a is tt V (λ o. refl) (λ o ne s fits. fits_back V o (λ p. grows p o) s fits);
        held = kept_send w W.channel inv.held r q l ws m con;
        entries = λ p. inv.entries p ∙ sym (unseen entered_in w r a p refl);
        exits = λ p. inv.exits p ∙ ap length (sym (unseen left_in w r a p refl));
      }

  holds_receive : (r : ℕ) → r < F.total → (p l : ℕ) (m : Message) (rest : List Message) → next_of F W r ≡ Does (Receives p l) → Takes l (W.channel p r) m rest → Holds F (w ++ (r, Recv p l m.words) ∷ []) (taken F W r (F.machine.act (W.state r) (Recv p l m.words)) p rest)
  holds_receive r lt p l m rest is takes =
      let a : Action = Recv p l m.words in
      let V : World S = taken F W r (F.machine.act (W.state r) a) p rest in
      -- the sequential run goes on with a receive of this label
      let tagged : (n : Message) (ns : List Message) → W.channel p r ≡ n ∷ ns → n.label ≡ l = λ n ns e.
      let go = ahead F laws w W inv (answers_of w) (λ q. answered_self (of_rank q w)) r lt in
      (elim go.2 [
        | over _ f ↦ (let t = after_act F.machine (F.allowed r) (Receives p l) f refl is in let no = t.is in cc)
        | more b s _ fits f ↦
            let t = after_act F.machine (F.allowed r) (Receives p l) f tt is in
            let first : t.action ≡ b = let u = t.is in cc in
            let shape = is_receive p l b (ap kind_of (sym first) ∙ t.kind) in
            ap (λ (c : ℕ × List ℕ). c.0) (subst (λ x. FitsFirst W.channel r x) shape.1 fits n ns e)
      ]) in
      let is_first = takes_first l (W.channel p r) m rest takes tagged in
      let con : content m ≡ (l, m.words) = ap (λ x. (x, m.words)) is_first.1 in
      let here : V.channel p r ≡ rest = at2_same W.channel p r rest in
      let row : (x o : ℕ) → x ≢ p → V.channel x o ≡ W.channel x o = λ x o ne. at2_row W.channel p r rest x o ne in
      let place : (x o : ℕ) → o ≢ r → V.channel x o ≡ W.channel x o = λ x o ne. at2_place W.channel p r rest x o ne in
      record {
        covered = covered_act r lt a is (λ A h k cov b s e kind.
            let shape = is_receive p l b kind in
            let fits = subst (λ x. FitsFirst W.channel r x) shape.1 (fits_covered w W.channel inv.held F laws.sequential A k r b s cov e) in
            let same = ap (λ (c : ℕ × List ℕ). c.1) (fits m rest is_first.0) in
            shape.1 ∙ ap (λ x. Recv p l x) (sym same));
        stood = stood_act r lt a is (λ n ns e. let h = is_first.0 in let same : n ≡ m = cc in ap content same ∙ con) V (λ o. refl) (λ o ne s fits. fits_back V o (λ x. ([], append-nil _ ∙ sym (place x o ne))) s fits);
        held = kept_receive w W.channel inv.held r p l m.words m rest is_first.0 con;
        entries = λ q. inv.entries q ∙ sym (unseen entered_in w r a q refl);
        exits = λ q. inv.exits q ∙ ap length (sym (unseen left_in w r a q refl));
      }

  holds_enter : (r : ℕ) → r < F.total → (j : Collective) (ws : List ℕ) (mode : Mode) → next_of F W r ≡ Does (Enters j) → F.allowed r (Enter j ws) ≡ true → Holds F (w ++ (r, Enter j ws) ∷ []) (inside F W r (F.machine.act (W.state r) (Enter j ws)) (j, ws) mode)
  holds_enter r lt j ws mode is fine =
      let a : Action = Enter j ws in
      let V : World S = inside F W r (F.machine.act (W.state r) a) (j, ws) mode in
      record {
        covered = covered_act r lt a is (own_agrees r lt a own_enter fine);
        stood = stood_act r lt a is tt V (λ q. refl) (λ q ne s fits. fits_back V q (λ p. prefix_refl _) s fits);
        held = kept_unseen w W.channel inv.held r a (λ q. refl) (λ p. refl);
        entries = λ p.
            elim (eqb_cases p r) [
              | inl e ↦ subst (λ n. V.entered n ≡ filter_map entered_in (of_rank n (w ++ (r, a) ∷ []))) (sym e.0) (at_same W.entered r (W.entered r ++ (j, ws) ∷ []) ∙ ap (λ l. l ++ (j, ws) ∷ []) (inv.entries r) ∙ sym (seen entered_in w r a))
              | inr e ↦ at_other W.entered r (W.entered r ++ (j, ws) ∷ []) p e.0 ∙ inv.entries p ∙ sym (elsewhere entered_in w r a p e.0)
            ];
        exits = λ p. inv.exits p ∙ ap length (sym (unseen left_in w r a p refl));
      }

  -- what a rank leaves a collective with is what it leaves it with in the sequential run
  leave_agrees : (r : ℕ) → r < F.total → (j : Collective) (words : ℕ → List ℕ) → HasEntered F W r j words → (A : AnswerTable) (m : ℕ) → Covers (F.run A m) w → (b : Action) (s : List Action) → of_rank r (F.run A m) ≡ of_rank r w ++ b ∷ s → kind_of b ≡ Leaves j → b ≡ Leave j (F.outcome j r words)
  leave_agrees r lt j words has A m cov b s e kind =
      let shape = is_leave j b kind in
      let all = rounds F laws.sequential A m in
      let before = filter_map left_in (of_rank r w) in
      let line : map (exit_of F r) all.0 ≡ before ++ (j, shape.0) ∷ filter_map left_in s =
      sym (all.1 r lt).leaves ∙ ap (filter_map left_in) (e ∙ ap (λ x. of_rank r w ++ x ∷ s) shape.1) ∙ filter_map-append left_in (of_rank r w) (Leave j shape.0 ∷ s) in
      let place : slice_get (map (exit_of F r) all.0) (length before) ≡ Some (j, shape.0) = ap (λ l. slice_get l (length before)) line ∙ get_end before (j, shape.0) (filter_map left_in s) in
      let round = picked (exit_of F r) all.0 (length before) (j, shape.0) place in
      let x = round.0 in
      let joint_is : x.0 ≡ j = ap (λ (y : Collective × List ℕ). y.0) round.2 in
      let words_are : F.outcome x.0 r x.1 ≡ shape.0 = ap (λ (y : Collective × List ℕ). y.1) round.2 in
      let each_same : (p : ℕ) → p < F.total → F.needs j r p ≡ true → x.1 p ≡ words p = λ p lp needed.
      let there : slice_get (filter_map entered_in (of_rank p w)) (length before) ≡ Some (j, words p) =
      ap₂ (λ l i. slice_get l i) (sym (inv.entries p)) (sym (inv.exits r)) ∙ has p lp needed in
      let there' = prefix_get _ _ (length before) (j, words p) (prefix_filter entered_in _ _ (cov p)) there in
      let mine : Some (entry_of p x) ≡ Some (j, words p) = sym (picks (entry_of p) all.0 (length before) x round.1) ∙ ap (λ l. slice_get l (length before)) (sym (all.1 p lp).enters) ∙ there' in
      let pair : entry_of p x ≡ (j, words p) = cc in
      ap (λ (y : Collective × List ℕ). y.1) pair in
      shape.1 ∙ ap (λ u. Leave j u) (sym words_are ∙ ap (λ i. F.outcome i r x.1) joint_is ∙ laws.depends j r x.1 words each_same)

  holds_leave : (r : ℕ) → r < F.total → (j : Collective) (words : ℕ → List ℕ) → next_of F W r ≡ Does (Leaves j) → HasEntered F W r j words → Holds F (w ++ (r, Leave j (F.outcome j r words)) ∷ []) (outside F W r (F.machine.act (W.state r) (Leave j (F.outcome j r words))))
  holds_leave r lt j words is has =
      let a : Action = Leave j (F.outcome j r words) in
      let V : World S = outside F W r (F.machine.act (W.state r) a) in
      record {
        covered = covered_act r lt a is (λ A h m cov b s e kind. leave_agrees r lt j words has A m cov b s e kind);
        stood = stood_act r lt a is tt V (λ q. refl) (λ q ne s fits. fits_back V q (λ p. prefix_refl _) s fits);
        held = kept_unseen w W.channel inv.held r a (λ q. refl) (λ p. refl);
        entries = λ p. inv.entries p ∙ sym (unseen entered_in w r a p refl);
        exits = λ p.
            elim (eqb_cases p r) [
              | inl e ↦ subst (λ n. V.left n ≡ length (filter_map left_in (of_rank n (w ++ (r, a) ∷ [])))) (sym e.0)
                  (at_same W.left r (suc (W.left r)) ∙ ap suc (inv.exits r) ∙ (let h : suc (length (filter_map left_in (of_rank r w))) ≡ length (filter_map left_in (of_rank r w) ++ (j, F.outcome j r words) ∷ []) = omega (arith, length-append (filter_map left_in (of_rank r w)) ((j, F.outcome j r words) ∷ [])) in h) ∙ ap length (sym (seen left_in w r a)))
              | inr e ↦ at_other W.left r (suc (W.left r)) p e.0 ∙ inv.exits p ∙ ap length (sym (elsewhere left_in w r a p e.0))
            ];
      }

  holds_next : (r : ℕ) (acts : List Action) (V : World S) → Step F W r acts V → Holds F (w ++ map (λ a. (r, a)) acts) V
  holds_next r acts V (silent free is) = subst (λ u. Holds F u (moved F W r (F.machine.quiet (W.state r)))) (sym (append-nil w)) (holds_silent r free.within is)
  holds_next r acts V (probe {p = p} {m = m} {rest = rest} {y = y} free is has reads) = subst (λ u. Holds F u (moved F W r y)) (sym (append-nil w)) (holds_probe r free.within p m rest y is has reads)
  holds_next r acts V (internal {a = a} free is al fine) = holds_alone r free.within a is al fine
  holds_next r acts V (send {q = q} {label = l} {words = ws} mode free is fine) = holds_send r free.within q l ws _ refl is fine
  holds_next r acts V (receive {p = p} {label = l} {m = m} {rest = rest} free is takes) = holds_receive r free.within p l m rest is takes
  holds_next r acts V (enter {j = j} {words = ws} mode free is same fine) = holds_enter r free.within j ws mode is fine
  holds_next r acts V (leave {j = j} words free is has waits) = holds_leave r free.within j words is has

-- each world that is reached
pub holds : {S : Type 0} (F : Family S) (laws : Laws F) (w : List (ℕ × Action)) (W : World S) → Reached F w W → Holds F w W
holds F laws w W start = holds_first F laws
holds F laws w W (event {w = v} {W = V} {r = r} {acts = acts} before step) = holds_next F laws v V (holds F laws v V before) r acts W step
