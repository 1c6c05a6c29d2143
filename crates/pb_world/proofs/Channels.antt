-- Channels beside the sends and receives that were done.
use Rattle.std.proofs.Common.{◌≡◌, ◌≢◌, ℕ, List, [], ◌∷◌, ◌++◌, map, filter_map, refl, sym, ap, ap₂, ◌∙◌, subst, inl, inr, append_assoc}
use Rattle.std.proofs.lemmas.List.{append_cancel_left, map-append}
use Rattle.std.proofs.lemmas.List.Elements.{filter_map-append}
use Rattle.pb_world.specs.Actions.{Action, Choose, Run, Send, Recv, Enter, Leave, of_rank, sent_to, received_from, AnswerTable, Covers}
use Rattle.pb_world.specs.Family.{Family, IsSequential}
use Rattle.pb_world.specs.World.{Message, content, updated, Takes, first, later, IsInFlight}
use Rattle.pb_world.proofs.Lists.{eqb_cases, at2_same, at2_row, at2_place, seen, elsewhere, unseen, last_first}
use Rattle.pb_world.proofs.Sequential.{matched, received_head, sent_head, received_none, sent_none}

abbrev pub Channels : Type 0
Channels = ℕ → ℕ → List Message

-- a receive agrees with the first message of its source, if there is one
abbrev pub FitsFirst : Channels → ℕ → Action → Type 0
FitsFirst C r (Recv p label words) = (m : Message) (rest : List Message) → C p r ≡ m ∷ rest → content m ≡ (label, words)
FitsFirst C r (Choose kernel branches branch) = Unit {0}
FitsFirst C r (Run kernel) = Unit {0}
FitsFirst C r (Send to label words) = Unit {0}
FitsFirst C r (Enter collective words) = Unit {0}
FitsFirst C r (Leave collective words) = Unit {0}

abbrev pub FitsAt : Channels → ℕ → List Action → Type 0
FitsAt C r [] = Unit {0}
FitsAt C r (a ∷ s) = FitsFirst C r a

-- the message that is taken is the first, where that one has the label
pub takes_first : (l : ℕ) (ms : List Message) (m : Message) (rest : List Message) → Takes l ms m rest → ((n : Message) (ns : List Message) → ms ≡ n ∷ ns → n.label ≡ l) → (ms ≡ m ∷ rest) × (m.label ≡ l)
takes_first l ms m rest (first e) h = (refl, e)
takes_first l ms m rest (later {m = n} {ms = ns} ne t) h = absurd (ne (h n ns refl))

module _ (w : List (ℕ × Action)) (C : Channels) (held : IsInFlight w C) where
  -- a receive in a sequential run that covers w is of the first message
  pub fits_covered : {S : Type 0} (F : Family S) → IsSequential F → (A : AnswerTable) (m r : ℕ) (a : Action) (s : List Action) → Covers (F.run A m) w → of_rank r (F.run A m) ≡ of_rank r w ++ a ∷ s → FitsFirst C r a
  fits_covered F sequential A m r (Recv p l ws) s cov e = λ msg rest is.
      let got = filter_map (received_from p) (of_rank r w) in
      let one : filter_map (received_from p) (of_rank r (F.run A m)) ≡ got ++ (l, ws) ∷ filter_map (received_from p) s =
      ap (filter_map (received_from p)) e ∙ filter_map-append (received_from p) (of_rank r w) (Recv p l ws ∷ s) ∙ ap (λ t. got ++ t) (received_head p l ws s) in
      let after = filter_map (sent_to r) (cov p).0 in
      let two : filter_map (sent_to r) (of_rank p (F.run A m)) ≡ got ++ content msg ∷ (map content rest ++ after) =
      ap (filter_map (sent_to r)) (sym (cov p).1) ∙ filter_map-append (sent_to r) (of_rank p w) (cov p).0
      ∙ ap (λ t. t ++ after) (held p r ∙ ap (λ t. got ++ map content t) is) ∙ append_assoc got (content msg ∷ map content rest) after in
      let three : (l, ws) ∷ filter_map (received_from p) s ≡ content msg ∷ (map content rest ++ after) =
      append_cancel_left got _ _ (sym one ∙ matched F sequential A m p r ∙ two) in
      cc
  fits_covered F sequential A m r (Choose k n b) s cov e = tt
  fits_covered F sequential A m r (Run k) s cov e = tt
  fits_covered F sequential A m r (Send q l ws) s cov e = tt
  fits_covered F sequential A m r (Enter j ws) s cov e = tt
  fits_covered F sequential A m r (Leave j ws) s cov e = tt

  -- ---- an action keeps the channels right

  pub kept_unseen : (r : ℕ) (a : Action) → ((q : ℕ) → filter_map (sent_to q) (a ∷ []) ≡ []) → ((p : ℕ) → filter_map (received_from p) (a ∷ []) ≡ []) → IsInFlight (w ++ (r, a) ∷ []) C
  kept_unseen r a sends receives p q = unseen (sent_to q) w r a p (sends q) ∙ held p q ∙ ap (λ l. l ++ map content (C p q)) (sym (unseen (received_from p) w r a q (receives p)))

  pub kept_send : (r q l : ℕ) (ws : List ℕ) (m : Message) → content m ≡ (l, ws) → IsInFlight (w ++ (r, Send q l ws) ∷ []) (updated C r (updated (C r) q (C r q ++ m ∷ [])))
  kept_send r q l ws m con p o =
      let a : Action = Send q l ws in
      let D : Channels = updated C r (updated (C r) q (C r q ++ m ∷ [])) in
      let here : D r q ≡ C r q ++ m ∷ [] = at2_same C r q (C r q ++ m ∷ []) in
      let got : filter_map (received_from p) (of_rank o (w ++ (r, a) ∷ [])) ≡ filter_map (received_from p) (of_rank o w) = unseen (received_from p) w r a o refl in
      elim (eqb_cases p r) [
        | inl e ↦ elim (eqb_cases o q) [
          | inl d ↦
              subst (λ n. filter_map (sent_to o) (of_rank n (w ++ (r, a) ∷ [])) ≡ filter_map (received_from n) (of_rank o (w ++ (r, a) ∷ [])) ++ map content (D n o)) (sym e.0)
              (subst (λ n. filter_map (sent_to n) (of_rank r (w ++ (r, a) ∷ [])) ≡ filter_map (received_from r) (of_rank n (w ++ (r, a) ∷ [])) ++ map content (D r n)) (sym d.0)
              (seen (sent_to q) w r a ∙ ap₂ (λ x y. x ++ y) (held r q) (sent_head q l ws []) ∙ append_assoc _ (map content (C r q)) ((l, ws) ∷ [])
              ∙ ap (λ t. filter_map (received_from r) (of_rank q w) ++ t) (ap (λ c. map content (C r q) ++ c ∷ []) (sym con) ∙ sym (map-append content (C r q) (m ∷ [])) ∙ ap (map content) (sym here))
              ∙ ap (λ t. t ++ map content (D r q)) (sym (unseen (received_from r) w r a q refl))))
          | inr d ↦
              let dn : q ≢ o = λ z. d.0 (sym z) in
              unseen (sent_to o) w r a p (sent_none o q l ws dn) ∙ held p o ∙ ap₂ (λ x y. x ++ map content y) (sym got) (sym (at2_place C r q (C r q ++ m ∷ []) p o d.0))
        ]
        | inr e ↦ elsewhere (sent_to o) w r a p e.0 ∙ held p o ∙ ap₂ (λ x y. x ++ map content y) (sym got) (sym (at2_row C r q (C r q ++ m ∷ []) p o e.0))
      ]

  pub kept_receive : (r p l : ℕ) (ws : List ℕ) (m : Message) (rest : List Message) → C p r ≡ m ∷ rest → content m ≡ (l, ws) → IsInFlight (w ++ (r, Recv p l ws) ∷ []) (updated C p (updated (C p) r rest))
  kept_receive r p l ws m rest is con x o =
      let a : Action = Recv p l ws in
      let D : Channels = updated C p (updated (C p) r rest) in
      let here : D p r ≡ rest = at2_same C p r rest in
      let sent : filter_map (sent_to o) (of_rank x (w ++ (r, a) ∷ [])) ≡ filter_map (sent_to o) (of_rank x w) = unseen (sent_to o) w r a x refl in
      elim (eqb_cases o r) [
        | inl d ↦ elim (eqb_cases x p) [
          | inl e ↦
              subst (λ n. filter_map (sent_to o) (of_rank n (w ++ (r, a) ∷ [])) ≡ filter_map (received_from n) (of_rank o (w ++ (r, a) ∷ [])) ++ map content (D n o)) (sym e.0)
              (subst (λ n. filter_map (sent_to n) (of_rank p (w ++ (r, a) ∷ [])) ≡ filter_map (received_from p) (of_rank n (w ++ (r, a) ∷ [])) ++ map content (D p n)) (sym d.0)
              (unseen (sent_to r) w r a p refl ∙ held p r ∙ ap (λ t. filter_map (received_from p) (of_rank r w) ++ map content t) is
              ∙ ap (λ c. filter_map (received_from p) (of_rank r w) ++ c ∷ map content rest) con
              ∙ sym (last_first (filter_map (received_from p) (of_rank r w)) (l, ws) (map content rest))
              ∙ ap₂ (λ u v. u ++ map content v) (ap (λ t. filter_map (received_from p) (of_rank r w) ++ t) (sym (received_head p l ws [])) ∙ sym (seen (received_from p) w r a)) (sym here)))
          | inr e ↦
              let en : p ≢ x = λ z. e.0 (sym z) in
              sent ∙ held x o ∙ ap₂ (λ u v. u ++ map content v) (sym (unseen (received_from x) w r a o (received_none x p l ws en))) (sym (at2_row C p r rest x o e.0))
        ]
        | inr d ↦ sent ∙ held x o ∙ ap₂ (λ u v. u ++ map content v) (sym (elsewhere (received_from x) w r a o d.0)) (sym (at2_place C p r rest x o d.0))
      ]
