-- The laws of a family, from what holds at each step of a sequential run that has a state.
use Rattle.std.proofs.Common.{◌≡◌, ℕ, zero, suc, ◌+◌, ◌<◌, ◌≤◌, Bool, cond, true, false, ◌⊎◌, List, [], ◌∷◌, ◌++◌, Some, refl, sym, ap, ap₂, ◌∙◌, subst, inl, inr, append_assoc, append-nil, arith}
use Rattle.pb_world.specs.Actions.{Action, Choose, Run, Send, Recv, Enter, Leave, Collective, kind_of, of_rank, Answers, AnswerTable, IsAnswered, IsPrefixOf}
use Rattle.pb_world.specs.Machine.{Silent, Does, Probe, Machine, IsStanding, Follows, stands, ended, silent, act, probe}
use Rattle.pb_world.specs.Family.{Family, Laws, choosing, running, IsOwn, own_internal, own_send, own_enter, Statement}
use Rattle.pb_world.specs.Sequencer.{behind_first, answers_after, first_or, state_after, emitted}
use Rattle.pb_world.proofs.Lists.{of_append}

-- From a state, a machine comes to another by exactly these actions, and silent steps.
pub data Leads {S : Type 0} (M : Machine S) (allowed : Action → Bool) : S → List Action → S → Type 0 where
  there : {x : S} → Leads M allowed x [] x
  by_silent : {x y : S} {s : List Action} → M.next x ≡ Silent → Leads M allowed (M.quiet x) s y → Leads M allowed x s y
  by_act : {x y : S} {a : Action} {s : List Action} → M.next x ≡ Does (kind_of a) → allowed a ≡ true → Leads M allowed (M.act x a) s y → Leads M allowed x (a ∷ s) y
  by_probe : {x y z : S} {p label : ℕ} {words : List ℕ} {s : List Action} → M.next x ≡ Probe p → M.read x label ≡ Some y → Leads M allowed y (Recv p label words ∷ s) z → Leads M allowed x (Recv p label words ∷ s) z

pub leads_follows : {S : Type 0} (M : Machine S) (allowed : Action → Bool) {x y : S} {s : List Action} (t : List Action) (ends : Bool) → Leads M allowed x s y → Follows M allowed y t ends → Follows M allowed x (s ++ t) ends
leads_follows M allowed t ends there f = f
leads_follows M allowed t ends (by_silent is l) f = silent is (leads_follows M allowed t ends l f)
leads_follows M allowed t ends (by_act is al l) f = act is al (leads_follows M allowed t ends l f)
leads_follows M allowed t ends (by_probe is rd l) f = probe is rd (leads_follows M allowed t ends l f)

-- before an action a machine stands, and so it does at its end
pub leads_stand : {S : Type 0} (M : Machine S) (allowed : Action → Bool) {x y : S} {a : Action} {s : List Action} → Leads M allowed x (a ∷ s) y → Follows M allowed x [] false
leads_stand M allowed (by_silent is l) = silent is (leads_stand M allowed l)
leads_stand M allowed (by_act is al l) = stands (subst IsStanding (sym is) tt)
leads_stand M allowed (by_probe is rd l) = stands (subst IsStanding (sym is) tt)

pub ends_stand : {S : Type 0} (M : Machine S) (allowed : Action → Bool) {x : S} → Follows M allowed x [] true → Follows M allowed x [] false
ends_stand M allowed (ended is) = stands (subst IsStanding (sym is) tt)
ends_stand M allowed (silent is f) = silent is (ends_stand M allowed f)

pub leads_on : {S : Type 0} (M : Machine S) (allowed : Action → Bool) {x y z : S} {s : List Action} (t : List Action) → Leads M allowed x s y → Leads M allowed y t z → Leads M allowed x (s ++ t) z
leads_on M allowed t there f = f
leads_on M allowed t (by_silent is l) f = by_silent is (leads_on M allowed t l f)
leads_on M allowed t (by_act is al l) f = by_act is al (leads_on M allowed t l f)
leads_on M allowed t (by_probe is rd l) f = by_probe is rd (leads_on M allowed t l f)

-- What an action does with the answers that its rank has left: it is the first answer where that is allowed, and the rest is left.
pub record Uses (allowed : Action → Bool) (before : Answers) (a : Action) (after : Answers) : Type 0 where
  pub here : (b : Action) → kind_of a ≡ kind_of b → IsOwn b → allowed b ≡ true → IsAnswered (b ∷ []) before → a ≡ b
  pub rest : (s : List Action) → IsAnswered (a ∷ s) before → IsAnswered s after

pub data UsesAll (allowed : Action → Bool) : Answers → List Action → Answers → Type 0 where
  none : {L : Answers} → UsesAll allowed L [] L
  one : {L M N : Answers} {a : Action} {s : List Action} → Uses allowed L a M → UsesAll allowed M s N → UsesAll allowed L (a ∷ s) N

prefix_behind : {A : Type 0} (x : A) (xs ys : List A) → IsPrefixOf (x ∷ xs) ys → IsPrefixOf xs (behind_first ys)
prefix_behind x xs [] p = let h = p.1 in cc
prefix_behind x xs (y ∷ ys) p = let h = p.1 in (p.0, cc)

rest_answered : (a : Action) (L : Answers) (s : List Action) → IsAnswered (a ∷ s) L → IsAnswered s (answers_after a L)
rest_answered (Choose k n b) L s h = record { branches = prefix_behind b _ L.branches h.branches; words = h.words }
rest_answered (Send q l ws) L s h = record { branches = h.branches; words = prefix_behind ws _ L.words h.words }
rest_answered (Enter j []) L s h = record { branches = h.branches; words = h.words }
rest_answered (Enter j (x ∷ ws)) L s h = record { branches = h.branches; words = prefix_behind (x ∷ ws) _ L.words h.words }
rest_answered (Run k) L s h = record { branches = h.branches; words = h.words }
rest_answered (Recv p l ws) L s h = record { branches = h.branches; words = h.words }
rest_answered (Leave j ws) L s h = record { branches = h.branches; words = h.words }

first_or_is : {A : Type 0} (x : A) (xs : List A) (fine : A → Bool) (d : A) → fine x ≡ true → IsPrefixOf (x ∷ []) xs → first_or xs fine d ≡ x
first_or_is x [] fine d h p = let e = p.1 in cc
first_or_is x (y ∷ ys) fine d h p = let e = p.1 in let same : x ≡ y = cc in ap (λ b. cond b y d) (ap fine (sym same) ∙ h) ∙ sym same

module _ (allowed : Action → Bool) (L : Answers) where
  pub uses_choice : (k n d : ℕ) → Uses allowed L (Choose k n (first_or L.branches (λ b. allowed (Choose k n b)) d)) (answers_after (Choose k n d) L)
  uses_choice k n d = record {
    here = go;
    rest = λ s h. rest_answered (Choose k n (first_or L.branches (λ b. allowed (Choose k n b)) d)) L s h;
  }
    where
      go : (b : Action) → kind_of (Choose k n (first_or L.branches (λ b. allowed (Choose k n b)) d)) ≡ kind_of b → IsOwn b → allowed b ≡ true → IsAnswered (b ∷ []) L → Choose k n (first_or L.branches (λ b. allowed (Choose k n b)) d) ≡ b
      go (Choose k' n' b) e own al h =
          let i : k ≡ k' = cc in
          let j : n ≡ n' = cc in
          let al' : allowed (Choose k n b) ≡ true = subst (λ x. allowed (Choose x n b) ≡ true) (sym i) (subst (λ x. allowed (Choose k' x b) ≡ true) (sym j) al) in
          ap (λ x. Choose k n x) (first_or_is b L.branches (λ b. allowed (Choose k n b)) d al' h.branches) ∙ ap₂ (λ x y. Choose x y b) i j
      go (Run m) e own al h = cc
      go (Send q l ws) e own al h = cc
      go (Recv q l ws) e own al h = cc
      go (Enter j ws) e own al h = cc
      go (Leave j ws) e own al h = cc

  pub uses_send : (q l : ℕ) (d : List ℕ) → Uses allowed L (Send q l (first_or L.words (λ ws. allowed (Send q l ws)) d)) (answers_after (Send q l d) L)
  uses_send q l d = record {
    here = go;
    rest = λ s h. rest_answered (Send q l (first_or L.words (λ ws. allowed (Send q l ws)) d)) L s h;
  }
    where
      go : (b : Action) → kind_of (Send q l (first_or L.words (λ ws. allowed (Send q l ws)) d)) ≡ kind_of b → IsOwn b → allowed b ≡ true → IsAnswered (b ∷ []) L → Send q l (first_or L.words (λ ws. allowed (Send q l ws)) d) ≡ b
      go (Send q' l' ws) e own al h =
          let i : q ≡ q' = cc in
          let j : l ≡ l' = cc in
          let al' : allowed (Send q l ws) ≡ true = subst (λ x. allowed (Send x l ws) ≡ true) (sym i) (subst (λ x. allowed (Send q' x ws) ≡ true) (sym j) al) in
          ap (λ x. Send q l x) (first_or_is ws L.words (λ ws. allowed (Send q l ws)) d al' h.words) ∙ ap₂ (λ x y. Send x y ws) i j
      go (Choose k n b) e own al h = cc
      go (Run m) e own al h = cc
      go (Recv q l ws) e own al h = cc
      go (Enter j ws) e own al h = cc
      go (Leave j ws) e own al h = cc

  -- an entry of a rank that makes words
  pub uses_enter : (j : Collective) (d : List ℕ) → ((ws : List ℕ) → allowed (Enter j ws) ≡ true → (x : ℕ) × (xs : List ℕ) × (ws ≡ x ∷ xs)) → Uses allowed L (Enter j (first_or L.words (λ ws. allowed (Enter j ws)) d)) (answers_after (Enter j (first_or L.words (λ ws. allowed (Enter j ws)) d)) L)
  uses_enter j d makes = record {
    here = go;
    rest = λ s h. rest_answered (Enter j (first_or L.words (λ ws. allowed (Enter j ws)) d)) L s h;
  }
    where
      go : (b : Action) → kind_of (Enter j (first_or L.words (λ ws. allowed (Enter j ws)) d)) ≡ kind_of b → IsOwn b → allowed b ≡ true → IsAnswered (b ∷ []) L → Enter j (first_or L.words (λ ws. allowed (Enter j ws)) d) ≡ b
      go (Enter i ws) e own al h =
          let same : j ≡ i = cc in
          let al' : allowed (Enter j ws) ≡ true = subst (λ x. allowed (Enter x ws) ≡ true) (sym same) al in
          let made = makes ws al' in
          let h' = subst (λ v. IsAnswered (Enter i v ∷ []) L) made.2 h in
          let got : first_or L.words (λ ws. allowed (Enter j ws)) d ≡ made.0 ∷ made.1 = first_or_is (made.0 ∷ made.1) L.words (λ ws. allowed (Enter j ws)) d (subst (λ v. allowed (Enter j v) ≡ true) made.2 al') h'.words in
          ap₂ (λ x v. Enter x v) same (got ∙ sym made.2)
      go (Choose k n b) e own al h = cc
      go (Run m) e own al h = cc
      go (Send q l ws) e own al h = cc
      go (Recv q l ws) e own al h = cc
      go (Leave i ws) e own al h = cc

  -- actions that are given by others, and runs, use nothing
  pub uses_run : (k : ℕ) → Uses allowed L (Run k) L
  uses_run k = record { here = go; rest = λ s h. rest_answered (Run k) L s h }
    where
      go : (b : Action) → kind_of (Run k) ≡ kind_of b → IsOwn b → allowed b ≡ true → IsAnswered (b ∷ []) L → Run k ≡ b
      go (Run m) e own al h = let same : k ≡ m = cc in ap Run same
      go (Choose k' n b) e own al h = cc
      go (Send q l ws) e own al h = cc
      go (Recv q l ws) e own al h = cc
      go (Enter j ws) e own al h = cc
      go (Leave j ws) e own al h = cc

  pub uses_receive : (p l : ℕ) (us : List ℕ) → Uses allowed L (Recv p l us) L
  uses_receive p l us = record { here = go; rest = λ s h. rest_answered (Recv p l us) L s h }
    where
      go : (b : Action) → kind_of (Recv p l us) ≡ kind_of b → IsOwn b → allowed b ≡ true → IsAnswered (b ∷ []) L → Recv p l us ≡ b
      go b e (own_internal choosing) al h = cc
      go b e (own_internal running) al h = cc
      go b e own_send al h = cc
      go b e own_enter al h = cc

  pub uses_leave : (j : Collective) (us : List ℕ) → Uses allowed L (Leave j us) L
  uses_leave j us = record { here = go; rest = λ s h. rest_answered (Leave j us) L s h }
    where
      go : (b : Action) → kind_of (Leave j us) ≡ kind_of b → IsOwn b → allowed b ≡ true → IsAnswered (b ∷ []) L → Leave j us ≡ b
      go b e (own_internal choosing) al h = cc
      go b e (own_internal running) al h = cc
      go b e own_send al h = cc
      go b e own_enter al h = cc

-- what is taken is allowed, where the default is
pub first_or_fine : {A : Type 0} (xs : List A) (fine : A → Bool) (d : A) → fine d ≡ true → fine (first_or xs fine d) ≡ true
first_or_fine [] fine d h = h
first_or_fine (x ∷ xs) fine d h = go (fine x) refl
  where
    go : (b : Bool) → fine x ≡ b → fine (cond b x d) ≡ true
    go true e = e
    go false e = h

module _ {S Q : Type 0} (F : Family S) (first : AnswerTable → Q) (emit : Q → List (ℕ × Action)) (next : Q → Q) (is_over : Q → Bool) (left : Q → ℕ → Answers) (IsGood : Q → Type 0) (At : Q → ℕ → S → Type 0) where
  pub record LocalLaws : Type 0 where
    pub run_is : (A : AnswerTable) (m : ℕ) → F.run A m ≡ emitted emit next m (first A)
    pub over_is : (A : AnswerTable) (m : ℕ) → F.over A m ≡ is_over (state_after emit next m (first A))
    pub depends : (j : Collective) (r : ℕ) (f g : ℕ → List ℕ) → ((p : ℕ) → p < F.total → F.needs j r p ≡ true → f p ≡ g p) → F.outcome j r f ≡ F.outcome j r g
    pub good_first : (A : AnswerTable) → IsGood (first A)
    pub good_next : (q : Q) → IsGood q → IsGood (next q)
    pub left_first : (A : AnswerTable) (r : ℕ) → left (first A) r ≡ A r
    pub statement : (q : Q) → IsGood q → Statement F (emit q)
    pub used : (q : Q) → IsGood q → (r : ℕ) → r < F.total → UsesAll (F.allowed r) (left q r) (of_rank r (emit q)) (left (next q) r)
    -- a rank's machine stands where the sequential run stands
    pub at_first : (A : AnswerTable) (r : ℕ) → r < F.total → At (first A) r (F.start r)
    pub at_next : (q : Q) → IsGood q → (r : ℕ) → r < F.total → (x : S) → At q r x → (y : S) × Leads F.machine (F.allowed r) x (of_rank r (emit q)) y × At (next q) r y
    pub at_goes : (q : Q) → IsGood q → (r : ℕ) → r < F.total → (x : S) → At q r x → Follows F.machine (F.allowed r) x [] true ⊎ ((n : ℕ) × (a : Action) × (s : List Action) × (of_rank r (emitted emit next n q) ≡ a ∷ s))
    pub finishes : (q : Q) → IsGood q → ((n : ℕ) × (is_over (state_after emit next n q) ≡ true)) ⊎ ((n : ℕ) × (r : ℕ) × (a : Action) × (s : List Action) × (r < F.total) × (of_rank r (emitted emit next n q) ≡ a ∷ s))

  emitted_last : (m : ℕ) (q : Q) → emitted emit next (suc m) q ≡ emitted emit next m q ++ emit (state_after emit next m q)
  emitted_last zero q = append-nil (emit q)
  emitted_last (suc m) q = ap (λ l. emit q ++ l) (emitted_last m (next q)) ∙ sym (append_assoc (emit q) (emitted emit next m (next q)) (emit (state_after emit next m (next q))))

  emitted_more : (m n : ℕ) (q : Q) → emitted emit next (n + m) q ≡ emitted emit next m q ++ emitted emit next n (state_after emit next m q)
  emitted_more zero n q = ap (λ k. emitted emit next k q) (let e : n + 0 ≡ n = omega arith in e)
  emitted_more (suc m) n q =
      let e : n + suc m ≡ suc (n + m) = omega arith in
      ap (λ k. emitted emit next k q) e ∙ ap (λ l. emit q ++ l) (emitted_more m n (next q)) ∙ sym (append_assoc (emit q) (emitted emit next m (next q)) (emitted emit next n (state_after emit next m (next q))))

  states_more : (m n : ℕ) (q : Q) → state_after emit next (n + m) q ≡ state_after emit next n (state_after emit next m q)
  states_more zero n q = ap (λ k. state_after emit next k q) (let e : n + 0 ≡ n = omega arith in e)
  states_more (suc m) n q = let e : n + suc m ≡ suc (n + m) = omega arith in ap (λ k. state_after emit next k q) e ∙ states_more m n (next q)

  module _ (laws : LocalLaws) where
    good_after : (m : ℕ) (q : Q) → IsGood q → IsGood (state_after emit next m q)
    good_after zero q g = g
    good_after (suc m) q g = good_after m (next q) (laws.good_next q g)

    leads_to : (m r : ℕ) → r < F.total → (q : Q) → IsGood q → (x : S) → At q r x → (y : S) × Leads F.machine (F.allowed r) x (of_rank r (emitted emit next m q)) y × At (state_after emit next m q) r y
    leads_to zero r lt q g x at = (x, there, at)
    leads_to (suc m) r lt q g x at =
        let go = laws.at_next q g r lt x at in
        let rest = leads_to m r lt (next q) (laws.good_next q g) go.0 go.2 in
        (rest.0, subst (λ l. Leads F.machine (F.allowed r) x l rest.0) (sym (of_append r (emit q) (emitted emit next m (next q)))) (leads_on F.machine (F.allowed r) (of_rank r (emitted emit next m (next q))) go.1 rest.1), rest.2)

    -- it stands before its next action, or at its end
    stands_at : (r : ℕ) → r < F.total → (q : Q) → IsGood q → (x : S) → At q r x → Follows F.machine (F.allowed r) x [] false
    stands_at r lt q g x at =
        elim (laws.at_goes q g r lt x at) [
          | inl f ↦ ends_stand F.machine (F.allowed r) f
          | inr h ↦ let go = leads_to h.0 r lt q g x at in leads_stand F.machine (F.allowed r) (subst (λ l. Leads F.machine (F.allowed r) x l go.0) h.3 go.1)
        ]

    follows_from : (m r : ℕ) → r < F.total → (q : Q) → IsGood q → (x : S) → At q r x → Follows F.machine (F.allowed r) x (of_rank r (emitted emit next m q)) false
    follows_from zero r lt q g x at = stands_at r lt q g x at
    follows_from (suc m) r lt q g x at =
        let go = laws.at_next q g r lt x at in
        subst (λ l. Follows F.machine (F.allowed r) x l false) (sym (of_append r (emit q) (emitted emit next m (next q))))
        (leads_follows F.machine (F.allowed r) (of_rank r (emitted emit next m (next q))) false go.1 (follows_from m r lt (next q) (laws.good_next q g) go.0 go.2))

    -- the answers of a list: the action at its place is the one that the answers give
    used_at : (allowed : Action → Bool) (L N : Answers) (u v s : List Action) (a : Action) (t : List Action) (b : Action) → UsesAll allowed L u N → ((s' : List Action) → v ≡ s' ++ a ∷ t → IsAnswered (s' ++ b ∷ []) N → a ≡ b) → u ++ v ≡ s ++ a ∷ t → kind_of a ≡ kind_of b → IsOwn b → allowed b ≡ true → IsAnswered (s ++ b ∷ []) L → a ≡ b
    used_at allowed L N u v s a t b none later e k own al h = later s e h
    used_at allowed L N u v [] a t b (one {M = M} {a = c} {s = cs} now uses) later e k own al h =
        let same : c ≡ a = cc in
        sym same ∙ now.here b (ap kind_of same ∙ k) own al h
    used_at allowed L N u v (d ∷ s) a t b (one {M = M} {a = c} {s = cs} now uses) later e k own al h =
        let same : d ≡ c = cc in
        let rest : cs ++ v ≡ s ++ a ∷ t = cc in
        used_at allowed M N cs v s a t b uses later rest k own al (now.rest (s ++ b ∷ []) (subst (λ x. IsAnswered (x ∷ (s ++ b ∷ [])) L) same h))

    answered_from : (m r : ℕ) → r < F.total → (q : Q) → IsGood q → (s : List Action) (a : Action) (t : List Action) (b : Action) → of_rank r (emitted emit next m q) ≡ s ++ a ∷ t → kind_of a ≡ kind_of b → IsOwn b → F.allowed r b ≡ true → IsAnswered (s ++ b ∷ []) (left q r) → a ≡ b
    answered_from zero r lt q g [] a t b e k own al h = cc
    answered_from zero r lt q g (c ∷ s) a t b e k own al h = cc
    answered_from (suc m) r lt q g s a t b e k own al h =
        used_at (F.allowed r) (left q r) (left (next q) r) (of_rank r (emit q)) (of_rank r (emitted emit next m (next q))) s a t b (laws.used q g r lt)
        (λ s' e' h'. answered_from m r lt (next q) (laws.good_next q g) s' a t b e' k own al h')
        (sym (of_append r (emit q) (emitted emit next m (next q))) ∙ e) k own al h

    pub laws_from : Laws F
    laws_from = record {
      sequential = record { starts = λ A. laws.run_is A zero; steps = λ A m. (emit (state_after emit next m (first A)), laws.statement _ (good_after m (first A) (laws.good_first A)), laws.run_is A (suc m) ∙ emitted_last m (first A) ∙ ap (λ l. l ++ emit (state_after emit next m (first A))) (sym (laws.run_is A m))) };
      follows = λ A m r lt. subst (λ l. Follows F.machine (F.allowed r) (F.start r) (of_rank r l) false) (sym (laws.run_is A m)) (follows_from m r lt (first A) (laws.good_first A) (F.start r) (laws.at_first A r lt));
      goes_on = λ A m r lt.
          let go = leads_to m r lt (first A) (laws.good_first A) (F.start r) (laws.at_first A r lt) in
          elim (laws.at_goes (state_after emit next m (first A)) (good_after m (first A) (laws.good_first A)) r lt go.0 go.2) [
            | inl f ↦ inl (subst (λ l. Follows F.machine (F.allowed r) (F.start r) l true) (append-nil _ ∙ ap (of_rank r) (sym (laws.run_is A m))) (leads_follows F.machine (F.allowed r) [] true go.1 f))
            | inr h ↦ inr (h.0 + m, h.1, h.2, ap (of_rank r) (laws.run_is A (h.0 + m) ∙ emitted_more m h.0 (first A)) ∙ of_append r (emitted emit next m (first A)) (emitted emit next h.0 (state_after emit next m (first A))) ∙ ap₂ (λ u v. of_rank r u ++ v) (sym (laws.run_is A m)) h.3)
          ];
      goes_over = λ A m.
          elim (laws.finishes (state_after emit next m (first A)) (good_after m (first A) (laws.good_first A))) [
            | inl h ↦ inl (h.0 + m, (let le : m ≤ h.0 + m = omega arith in le), laws.over_is A (h.0 + m) ∙ ap is_over (states_more m h.0 (first A)) ∙ h.1)
            | inr h ↦ inr (h.0 + m, h.1, h.2, h.3, h.4, ap (of_rank h.1) (laws.run_is A (h.0 + m) ∙ emitted_more m h.0 (first A)) ∙ of_append h.1 (emitted emit next m (first A)) (emitted emit next h.0 (state_after emit next m (first A))) ∙ ap₂ (λ u v. of_rank h.1 u ++ v) (sym (laws.run_is A m)) h.5)
          ];
      answered = λ A m r s a t b lt e k own al h. answered_from m r lt (first A) (laws.good_first A) s a t b (ap (of_rank r) (sym (laws.run_is A m)) ∙ e) k own al (subst (λ L. IsAnswered (s ++ b ∷ []) L) (sym (laws.left_first A r)) h);
      depends = laws.depends;
    }
