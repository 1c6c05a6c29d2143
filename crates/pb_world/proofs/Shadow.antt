-- The laws of a family, where each state of the sequential run has a state of each rank's machine.
use Rattle.std.proofs.Common.{◌≡◌, ℕ, zero, suc, ◌<◌, Bool, true, ◌⊎◌, List, [], ◌∷◌, ◌++◌, Some, refl, sym, ap, ◌∙◌, subst, inl, inr, append-nil}
use Rattle.pb_world.specs.Actions.{Action, Recv, Collective, of_rank, Answers, AnswerTable}
use Rattle.pb_world.specs.Machine.{Silent, Probe, Follows, silent}
use Rattle.pb_world.specs.Family.{Family, Laws, Statement}
use Rattle.pb_world.specs.Sequencer.{emitted, state_after}
use Rattle.pb_world.proofs.Lists.{of_append}
use Rattle.pb_world.proofs.Local.{Leads, there, by_silent, by_act, by_probe, UsesAll, laws_from}

module _ {S Q : Type 0} (F : Family S) (first : AnswerTable → Q) (emit : Q → List (ℕ × Action)) (next : Q → Q) (is_over : Q → Bool) (left : Q → ℕ → Answers) (IsGood : Q → Type 0) (shadow : Q → ℕ → S) where
  -- a rank does something from here on
  abbrev pub More : Q → ℕ → Type 0
  More q r = (n : ℕ) × (a : Action) × (s : List Action) × (of_rank r (emitted emit next n q) ≡ a ∷ s)

  -- what it does first is a receive from p, with a label of the test
  abbrev pub Begins : Q → ℕ → ℕ → (ℕ → Bool) → Type 0
  Begins q r p test = (n : ℕ) (a : Action) (s : List Action) → of_rank r (emitted emit next n q) ≡ a ∷ s → (l : ℕ) × (ws : List ℕ) × (a ≡ Recv p l ws) × (test l ≡ true)

  -- how a rank's state moves with the sequential run
  pub data Moves (q : Q) (r : ℕ) : Type 0 where
    -- by its actions, and silent steps
    acts : Leads F.machine (F.allowed r) (shadow q r) (of_rank r (emit q)) (shadow (next q) r) → Moves q r
    -- by silent steps to a probe: which branch it is shows in the first message
    asks : (x : S) (p : ℕ) (test : ℕ → Bool) → of_rank r (emit q) ≡ [] → Leads F.machine (F.allowed r) (shadow q r) [] x → F.machine.next x ≡ Probe p → ((l : ℕ) → test l ≡ true → F.machine.read x l ≡ Some (shadow (next q) r)) → Begins (next q) r p test → More (next q) r → Moves q r

  pub record ShadowLaws : Type 0 where
    pub run_is : (A : AnswerTable) (m : ℕ) → F.run A m ≡ emitted emit next m (first A)
    pub over_is : (A : AnswerTable) (m : ℕ) → F.over A m ≡ is_over (state_after emit next m (first A))
    pub depends : (j : Collective) (r : ℕ) (f g : ℕ → List ℕ) → ((p : ℕ) → p < F.total → F.needs j r p ≡ true → f p ≡ g p) → F.outcome j r f ≡ F.outcome j r g
    pub good_first : (A : AnswerTable) → IsGood (first A)
    pub good_next : (q : Q) → IsGood q → IsGood (next q)
    pub left_first : (A : AnswerTable) (r : ℕ) → left (first A) r ≡ A r
    pub statement : (q : Q) → IsGood q → Statement F (emit q)
    pub used : (q : Q) → IsGood q → (r : ℕ) → r < F.total → UsesAll (F.allowed r) (left q r) (of_rank r (emit q)) (left (next q) r)
    pub shadow_first : (A : AnswerTable) (r : ℕ) → r < F.total → shadow (first A) r ≡ F.start r
    pub moves : (q : Q) → IsGood q → (r : ℕ) → r < F.total → Moves q r
    pub shadow_goes : (q : Q) → IsGood q → (r : ℕ) → r < F.total → Follows F.machine (F.allowed r) (shadow q r) [] true ⊎ More q r
    pub finishes : (q : Q) → IsGood q → ((n : ℕ) × (is_over (state_after emit next n q) ≡ true)) ⊎ ((n : ℕ) × (r : ℕ) × (a : Action) × (s : List Action) × (r < F.total) × (of_rank r (emitted emit next n q) ≡ a ∷ s))

  -- a rank's machine is at its state, or some silent steps before it, or still at a probe whose message is to come
  pub data At (q : Q) (r : ℕ) : S → Type 0 where
    same : {x : S} → x ≡ shadow q r → At q r x
    before : {x : S} → F.machine.next x ≡ Silent → At q r (F.machine.quiet x) → At q r x
    probing : {x z : S} (p : ℕ) (test : ℕ → Bool) → F.machine.next x ≡ Probe p → ((l : ℕ) → test l ≡ true → F.machine.read x l ≡ Some z) → Begins q r p test → More q r → At q r z → At q r x

  -- one step of the sequential run, in which the rank does nothing
  more_next : (q : Q) (r : ℕ) → of_rank r (emit q) ≡ [] → More q r → More (next q) r
  more_next q r none h = go h.0 h.1 h.2 h.3
    where
      go : (n : ℕ) (a : Action) (s : List Action) → of_rank r (emitted emit next n q) ≡ a ∷ s → More (next q) r
      go zero a s e = cc
      go (suc n) a s e = (n, a, s, sym (of_append r (emit q) (emitted emit next n (next q)) ∙ ap (λ l. l ++ of_rank r (emitted emit next n (next q))) none) ∙ e)

  begins_next : (q : Q) (r p : ℕ) (test : ℕ → Bool) → of_rank r (emit q) ≡ [] → Begins q r p test → Begins (next q) r p test
  begins_next q r p test none h n a s e = h (suc n) a s (of_append r (emit q) (emitted emit next n (next q)) ∙ ap (λ l. l ++ of_rank r (emitted emit next n (next q))) none ∙ e)

  -- the first action of a rank in a step
  begins_now : (q : Q) (r p : ℕ) (test : ℕ → Bool) (a : Action) (s : List Action) → of_rank r (emit q) ≡ a ∷ s → Begins q r p test → (l : ℕ) × (ws : List ℕ) × (a ≡ Recv p l ws) × (test l ≡ true)
  begins_now q r p test a s e h = h 1 a s (of_append r (emit q) [] ∙ append-nil _ ∙ e)

  at_back : (q : Q) (r : ℕ) {x y : S} {s : List Action} → Leads F.machine (F.allowed r) x s y → s ≡ [] → At q r y → At q r x
  at_back q r there e at = at
  at_back q r (by_silent is l) e at = before is (at_back q r l e at)
  at_back q r (by_act is al l) e at = cc
  at_back q r (by_probe is rd l) e at = cc

  module _ (laws : ShadowLaws) where
    abbrev Next_at : Q → ℕ → S → Type 0
    Next_at q r x = (y : S) × Leads F.machine (F.allowed r) x (of_rank r (emit q)) y × At (next q) r y

    -- past a probe
    past_probe : (q : Q) (r : ℕ) (x z : S) (p : ℕ) (test : ℕ → Bool) → F.machine.next x ≡ Probe p → ((l : ℕ) → test l ≡ true → F.machine.read x l ≡ Some z) → Begins q r p test → More q r → Next_at q r z → (s : List Action) → of_rank r (emit q) ≡ s → Next_at q r x
    past_probe q r x z p test is reads begins more go [] e = (
      x,
      subst (λ l. Leads F.machine (F.allowed r) x l x) (sym e) there,
      probing p test is reads (begins_next q r p test e begins) (more_next q r e more) (at_back (next q) r go.1 e go.2),
    )
    past_probe q r x z p test is reads begins more go (a ∷ s) e =
        let head = begins_now q r p test a s e begins in
        let e' : of_rank r (emit q) ≡ Recv p head.0 head.1 ∷ s = e ∙ ap (λ b. b ∷ s) head.2 in
        (go.0, subst (λ l. Leads F.machine (F.allowed r) x l go.0) (sym e') (by_probe is (reads head.0 head.3) (subst (λ l. Leads F.machine (F.allowed r) z l go.0) e' go.1)), go.2)

    at_next : (q : Q) → IsGood q → (r : ℕ) → r < F.total → (x : S) → At q r x → Next_at q r x
    at_next q g r lt x (same e) =
        elim (laws.moves q g r lt) [
          | acts l ↦ (shadow (next q) r, subst (λ y. Leads F.machine (F.allowed r) y (of_rank r (emit q)) (shadow (next q) r)) (sym e) l, same refl)
          | asks y p test none to is reads begins more ↦
              (x, subst (λ l. Leads F.machine (F.allowed r) x l x) (sym none) there, at_back (next q) r (subst (λ z. Leads F.machine (F.allowed r) z [] y) (sym e) to) refl (probing p test is reads begins more (same refl)))
        ]
    at_next q g r lt x (before is at) = let go = at_next q g r lt (F.machine.quiet x) at in (go.0, by_silent is go.1, go.2)
    at_next q g r lt x (probing {z = z} p test is reads begins more at) = past_probe q r x z p test is reads begins more (at_next q g r lt z at) (of_rank r (emit q)) refl

    at_goes : (q : Q) → IsGood q → (r : ℕ) → r < F.total → (x : S) → At q r x → Follows F.machine (F.allowed r) x [] true ⊎ More q r
    at_goes q g r lt x (same e) =
        elim (laws.shadow_goes q g r lt) [ inl f ↦ inl (subst (λ y. Follows F.machine (F.allowed r) y [] true) (sym e) f) | inr h ↦ inr h ]
    at_goes q g r lt x (before is at) =
        elim (at_goes q g r lt (F.machine.quiet x) at) [ inl f ↦ inl (silent is f) | inr h ↦ inr h ]
    at_goes q g r lt x (probing p test is reads begins more at) = inr more

    pub shadow_laws : Laws F
    shadow_laws = laws_from F first emit next is_over left IsGood At (record {
      run_is = laws.run_is;
      over_is = laws.over_is;
      depends = laws.depends;
      good_first = laws.good_first;
      good_next = laws.good_next;
      left_first = laws.left_first;
      statement = laws.statement;
      used = laws.used;
      at_first = λ A r lt. same (sym (laws.shadow_first A r lt));
      at_next = at_next;
      at_goes = at_goes;
      finishes = laws.finishes;
    })
