-- What the steps of a run keep.
use Rattle.std.proofs.Common.{◌≡◌, ℕ, zero, suc, ◌<◌, ◌==◌, Bool, cond, true, false, ◌||◌, ◌⊎◌, MatchBool, List, [], ◌∷◌, length, replicate, refl, sym, ap, ap₂, ◌∙◌, subst, inl, inr}
use Rattle.std.proofs.Math.ListN.{length-replicate}
use Rattle.std.proofs.lemmas.Bool.{eq-eqb, eqb-true, eqb-false, ltb-true, or_right, or_left, cases_Bool, or_parts}
use Rattle.pb_world.specs.Actions.{Action, Choose, Run, Send, Recv, Enter, Leave, Collective, kind_of, of_rank, Answers, IsAnswered}
use Rattle.pb_world.specs.Family.{Statement, nothing, internal, message as message_st, joint, choosing, running, IsOwn}
use Rattle.pb_world.specs.Sequencer.{answers_after, answers_after_all}
use Rattle.pb_world.proofs.Lists.{eqb_cases, no_elements}
use Rattle.pb_world.proofs.Sequential.{internal_self, internal_other, message_sender, message_receiver, message_other, joint_of}
use Rattle.pb_world.proofs.Local.{Uses, UsesAll, none, one, uses_choice, uses_send, uses_enter, uses_run, uses_receive, uses_leave, first_or_fine}
use Rattle.pb_core_language.specs.Flat.{Origin, Block, stop, message, compute, together, choice, looped, again, Branches, takes_part, takes_part_among, in_choice, count, branch_at, first_ending}
use Rattle.pb_core_language.specs.Run.{Setting, Opener, Top, Chosen, Body, Frame, Env, at_rank, env_over, env_of, live, back, back_over, move, enter_words, is_allowed, branch_now, words_now, entered_now, emit_at, taken_at}
use Rattle.pb_core_endpoint.proofs.Kept.{Receives_first, Receives_each, first_label, first_label_among, Keeps}
use Rattle.pb_core_endpoint.specs.Theorem.{family}
use Rattle.pb_core_endpoint.proofs.Clean.{top_live, Clean, Body_keeps, Stack_keeps}
use Rattle.pb_core_endpoint.proofs.Stacks.{move_dead}
use Rattle.pb_core_endpoint.proofs.Branches.{keeps_at, part_at, receives_in, label_at, first_ending_fine}

-- each rank's stack stays clean
module _ (r : ℕ) where
  body_fits : (b : Block) (env : Env) → takes_part (at_rank r (env_over (Body b) env)) r b ≡ true → takes_part (false ∷ at_rank r env) r b ≡ true
  body_fits b env h = elim (cases_Bool (takes_part (false ∷ at_rank r env) r b)) [
    | inl y ↦ y
    | inr y ↦ subst (λ u. takes_part (u ∷ at_rank r env) r b ≡ true) y h
  ]

  clean_back : (K : List Frame) → Clean r K → (n : ℕ) → Clean r (back K n)
  clean_back [] c n = tt
  clean_back (f ∷ K) c n = go f.opener n c.1 (clean_back K c.2)
    where
      go : (o : Opener) (n : ℕ) → (live r o (env_of K) ≡ true → top_live r K ≡ true) → ((n : ℕ) → Clean r (back K n)) → Clean r (back_over o n K (back K))
      go Top n d ih = ih n
      go (Chosen p bs) n d ih = ih n
      go (Body b) zero d ih = (body_fits b (env_of K), d, c.2)
      go (Body b) (suc n) d ih = ih n

  pub clean_move : (o : Opener) (K : List Frame) (g : Block) (x : ℕ) → Clean r (record { opener = o; rest = g } ∷ K) → Clean r (move o K g x)
  clean_move o K stop x c = c.2
  clean_move o K (message origin p q l g) x c = (λ h. c.0 (or_right (p == r) _ (or_right (q == r) _ h)), c.1, c.2)
  clean_move o K (compute origin p k g) x c = (λ h. c.0 (or_right (p == r) _ h), c.1, c.2)
  clean_move o K (together origin j g) x c = (λ h. c.0 refl, c.1, c.2)
  clean_move o K (choice origin p k bs g) x c =
      let e = at_rank r (env_over o (env_of K)) in
      ((λ h. or_right (p == r) (takes_part_among e r bs) (part_at e r bs x h)), (λ h. c.0 (or_left (in_choice e r p bs) (takes_part e r g) h)), ((λ h. c.0 (or_right (in_choice e r p bs) (takes_part e r g) h)), c.1, c.2))
  clean_move o K (looped origin b g) x c =
      let env = env_over o (env_of K) in
      (body_fits b env, (λ h. c.0 (or_left (takes_part (false ∷ at_rank r env) r b) (takes_part (at_rank r env) r g) h)), ((λ h. c.0 (or_right (takes_part (false ∷ at_rank r env) r b) (takes_part (at_rank r env) r g) h)), c.1, c.2))
  clean_move o K (again n) x c = clean_back (record { opener = o; rest = again n } ∷ K) c n

-- the rules stay kept
module _ (T : ℕ) where
  keeps_back : (K : List Frame) → Stack_keeps T K → (n : ℕ) → Stack_keeps T (back K n)
  keeps_back [] c n = tt
  keeps_back (f ∷ K) c n = go f.opener n c.1 (keeps_back K c.2)
    where
      go : (o : Opener) (n : ℕ) → Body_keeps T o (env_of K) → ((n : ℕ) → Stack_keeps T (back K n)) → Stack_keeps T (back_over o n K (back K))
      go Top n d ih = ih n
      go (Chosen p bs) n d ih = ih n
      go (Body b) zero d ih = (d, d, c.2)
      go (Body b) (suc n) d ih = ih n

  pub keeps_move : (o : Opener) (K : List Frame) (g : Block) (x : ℕ) → Stack_keeps T (record { opener = o; rest = g } ∷ K) → Stack_keeps T (move o K g x)
  keeps_move o K stop x c = c.2
  keeps_move o K (message origin p q l g) x c = (c.0.3, c.1, c.2)
  keeps_move o K (compute origin p k g) x c = (c.0.1, c.1, c.2)
  keeps_move o K (together origin j g) x c = (c.0.1, c.1, c.2)
  keeps_move o K (choice origin p k bs g) x c = (keeps_at T (env_over o (env_of K)) bs x c.0.3, tt, (c.0.4, c.1, c.2))
  keeps_move o K (looped origin b g) x c = (c.0.0, c.0.0, (c.0.1, c.1, c.2))
  keeps_move o K (again n) x c = keeps_back (record { opener = o; rest = again n } ∷ K) c n

module _ (w : Setting) where
  words_fine : (left : ℕ → Answers) (r q l : ℕ) → is_allowed w r (Send q l (words_now w left r q l)) ≡ true
  words_fine left r q l = first_or_fine (left r).words (λ ws. is_allowed w r (Send q l ws)) (replicate (w.size l) 0) (eq-eqb _ _ (length-replicate (w.size l) 0))

  pub sends_fine : (left : ℕ → Answers) (p q l r : ℕ) → p ≡ r → is_allowed w r (Send q l (words_now w left p q l)) ≡ true
  sends_fine left p q l r e = subst (λ k. is_allowed w k (Send q l (words_now w left p q l)) ≡ true) e (words_fine left p q l)

  pub branch_fine : (left : ℕ → Answers) (r p k : ℕ) (bs : Branches) → 0 < count bs → is_allowed w r (Choose k (count bs) (branch_now w left p k bs)) ≡ true
  branch_fine left r p k bs lt = first_or_fine (left p).branches (λ x. is_allowed w r (Choose k (count bs) x)) (first_ending bs) (first_ending_fine bs lt)

  pub branch_less : (left : ℕ → Answers) (p k : ℕ) (bs : Branches) → 0 < count bs → branch_now w left p k bs < count bs
  branch_less left p k bs lt = ltb-true _ _ (branch_fine left p p k bs lt)

  enters_fine : (r n : ℕ) (j : Collective) (xs : List (List ℕ)) → w.weight j r ≡ n → is_allowed w r (Enter j (enter_words n (λ ws. is_allowed w r (Enter j ws)) xs)) ≡ true
  enters_fine r zero j xs e = ap (λ n. 0 == n) e
  enters_fine r (suc n) j xs e = first_or_fine xs (λ ws. is_allowed w r (Enter j ws)) (replicate (suc n) 0) (eq-eqb _ _ (length-replicate (suc n) 0 ∙ sym e))

  pub entry_fine : (left : ℕ → Answers) (r : ℕ) (j : Collective) → is_allowed w r (Enter j (entered_now w left j r)) ≡ true
  entry_fine left r j = enters_fine r (w.weight j r) j (left r).words refl

  some_word : (ws : List ℕ) (n : ℕ) → length ws ≡ suc n → (x : ℕ) × (xs : List ℕ) × (ws ≡ x ∷ xs)
  some_word [] n e = cc
  some_word (x ∷ xs) n e = (x, xs, refl)

  uses_entry : (L : Answers) (r n : ℕ) (j : Collective) → w.weight j r ≡ n → Uses (is_allowed w r) L (Enter j (enter_words n (λ ws. is_allowed w r (Enter j ws)) L.words)) (answers_after (Enter j (enter_words n (λ ws. is_allowed w r (Enter j ws)) L.words)) L)
  uses_entry L r zero j e = record { here = go; rest = λ s h. record { branches = h.branches; words = h.words } }
    where
      go : (b : Action) → kind_of (Enter j []) ≡ kind_of b → IsOwn b → is_allowed w r b ≡ true → IsAnswered (b ∷ []) L → Enter j [] ≡ b
      go (Enter i ws) k own al h =
          let same : j ≡ i = cc in
          let al' : (length ws == 0) ≡ true = subst (λ n. (length ws == n) ≡ true) e (subst (λ x. (length ws == w.weight x r) ≡ true) (sym same) al) in
          ap₂ (λ x v. Enter x v) same (sym (no_elements ws (eqb-true _ _ al')))
      go (Choose k' n b) k own al h = cc
      go (Run m) k own al h = cc
      go (Send q l ws) k own al h = cc
      go (Recv q l ws) k own al h = cc
      go (Leave i ws) k own al h = cc
  uses_entry L r (suc n) j e = uses_enter (is_allowed w r) L j (replicate (suc n) 0) (λ ws al. some_word ws n (eqb-true _ _ al ∙ e))

  -- what a rank does in a collective
  pub together_of : (protocol : Block) (left : ℕ → Answers) (origin : Origin) (j : Collective) (g : Block) (r : ℕ) → r < w.total → of_rank r (emit_at w (together origin j g) left) ≡ Enter j (entered_now w left j r) ∷ Leave j (w.outcome j r (entered_now w left j)) ∷ []
  together_of protocol left origin j g r lt = joint_of (family w protocol) j (entered_now w left j) r lt

  -- each step is a statement, and uses the answers in order
  pub statement_of : (protocol : Block) (left : ℕ → Answers) (env : Env) (g : Block) → Keeps w.total env g → Statement (family w protocol) (emit_at w g left)
  statement_of protocol left env stop c = nothing
  statement_of protocol left env (message origin p q l g) c = message_st c.0 c.1 c.2
  statement_of protocol left env (compute origin p k g) c = internal c.0 running
  statement_of protocol left env (together origin j g) c = joint j (entered_now w left j)
  statement_of protocol left env (choice origin p k bs g) c = internal c.0 choosing
  statement_of protocol left env (looped origin b g) c = nothing
  statement_of protocol left env (again n) c = nothing

  pub uses_of : (protocol : Block) (left : ℕ → Answers) (env : Env) (g : Block) (r : ℕ) → r < w.total → Keeps w.total env g → UsesAll (is_allowed w r) (left r) (of_rank r (emit_at w g left)) (answers_after_all (of_rank r (emit_at w g left)) (left r))
  uses_of protocol left env stop r lt c = none
  uses_of protocol left env (message origin p q l g) r lt c =
      let st = emit_at w (message origin p q l g) left in
      let ws = words_now w left p q l in
      let P : List Action → Type 0 = λ s. UsesAll (is_allowed w r) (left r) s (answers_after_all s (left r)) in
      elim (eqb_cases p r) [
        | inl y ↦
            subst P (sym (subst (λ k. of_rank k st ≡ Send q l ws ∷ []) y.0 (message_sender p q l ws c.2)))
            (subst (λ k. P (Send q l (words_now w left k q l) ∷ [])) (sym y.0) (one (uses_send (is_allowed w r) (left r) q l _) none))
        | inr y ↦ elim (eqb_cases q r) [
          | inl z ↦ subst P (sym (subst (λ k. of_rank k st ≡ Recv p l ws ∷ []) z.0 (message_receiver p q l ws c.2))) (one (uses_receive (is_allowed w r) (left r) p l ws) none)
          | inr z ↦ subst P (sym (message_other p q l ws r y.0 z.0)) none
        ]
      ]
  uses_of protocol left env (compute origin p k g) r lt c =
      let P : List Action → Type 0 = λ s. UsesAll (is_allowed w r) (left r) s (answers_after_all s (left r)) in
      elim (eqb_cases p r) [
        | inl y ↦ subst P (sym (subst (λ x. of_rank x ((p, Run k) ∷ []) ≡ Run k ∷ []) y.0 (internal_self p (Run k)))) (one (uses_run (is_allowed w r) (left r) k) none)
        | inr y ↦ subst P (sym (internal_other p r (Run k) y.0)) none
      ]
  uses_of protocol left env (together origin j g) r lt c =
      let P : List Action → Type 0 = λ s. UsesAll (is_allowed w r) (left r) s (answers_after_all s (left r)) in
      subst P (sym (together_of protocol left origin j g r lt))
      (one (uses_entry (left r) r (w.weight j r) j refl) (one (uses_leave (is_allowed w r) (answers_after (Enter j (entered_now w left j r)) (left r)) j (w.outcome j r (entered_now w left j))) none))
  uses_of protocol left env (choice origin p k bs g) r lt c =
      let x = branch_now w left p k bs in
      let n = count bs in
      let P : List Action → Type 0 = λ s. UsesAll (is_allowed w r) (left r) s (answers_after_all s (left r)) in
      elim (eqb_cases p r) [
        | inl y ↦
            subst P (sym (subst (λ q. of_rank q ((p, Choose k n x) ∷ []) ≡ Choose k n x ∷ []) y.0 (internal_self p (Choose k n x))))
            (subst (λ q. P (Choose k n (branch_now w left q k bs) ∷ [])) (sym y.0) (one (uses_choice (is_allowed w r) (left r) k n _) none))
        | inr y ↦ subst P (sym (internal_other p r (Choose k n x) y.0)) none
      ]
  uses_of protocol left env (looped origin b g) r lt c = none
  uses_of protocol left env (again n) r lt c = none

-- what a rank does first
module _ (r p : ℕ) (test : ℕ → Bool) where
  pub record Told (env : List Bool) (g : Block) : Type 0 where
    pub first : Receives_first env r p g
    pub labels : (l : ℕ) → first_label env r g l ≡ true → test l ≡ true

  -- in the first frame in which it takes part
  abbrev pub First_in : List Frame → Type 0
  First_in [] = ⊥
  First_in (f ∷ K) = MatchBool (live r f.opener (env_of K)) (Told (at_rank r (env_over f.opener (env_of K))) f.rest) (First_in K)

  pub first_put : (f : Frame) (K : List Frame) → live r f.opener (env_of K) ≡ false → First_in K → First_in (f ∷ K)
  first_put f K l h = subst (λ b. MatchBool b (Told (at_rank r (env_over f.opener (env_of K))) f.rest) (First_in K)) (sym l) h

  pub first_drop : (f : Frame) (K : List Frame) → live r f.opener (env_of K) ≡ false → First_in (f ∷ K) → First_in K
  first_drop f K l h = subst (λ b. MatchBool b (Told (at_rank r (env_over f.opener (env_of K))) f.rest) (First_in K)) l h

  pub first_live : (f : Frame) (K : List Frame) → live r f.opener (env_of K) ≡ true → Told (at_rank r (env_over f.opener (env_of K))) f.rest → First_in (f ∷ K)
  first_live f K l h = subst (λ b. MatchBool b (Told (at_rank r (env_over f.opener (env_of K))) f.rest) (First_in K)) (sym l) h

  pub first_told : (f : Frame) (K : List Frame) → live r f.opener (env_of K) ≡ true → First_in (f ∷ K) → Told (at_rank r (env_over f.opener (env_of K))) f.rest
  first_told f K l h = subst (λ b. MatchBool b (Told (at_rank r (env_over f.opener (env_of K))) f.rest) (First_in K)) l h

  -- a step keeps it, or is that receive
  pub record Received (s : List Action) : Type 0 where
    pub label : ℕ
    pub words : List ℕ
    pub rest : List Action
    pub is : s ≡ Recv p label words ∷ rest
    pub told : test label ≡ true

  module _ (w : Setting) (left : ℕ → Answers) where
    pub emits_none : (env : List Bool) (g : Block) → takes_part env r g ≡ false → of_rank r (emit_at w g left) ≡ []
    emits_none env stop h = refl
    emits_none env (message origin p' q' l g) h =
        let a = or_parts (p' == r) _ h in
        let b = or_parts (q' == r) _ a.1 in
        message_other p' q' l _ r (eqb-false p' r a.0) (eqb-false q' r b.0)
    emits_none env (compute origin p' k g) h = internal_other p' r (Run k) (eqb-false p' r (or_parts (p' == r) _ h).0)
    emits_none env (together origin j g) h = cc
    emits_none env (choice origin p' k bs g) h = internal_other p' r _ (eqb-false p' r (or_parts (p' == r) _ (or_parts _ _ h).0).0)
    emits_none env (looped origin b g) h = refl
    emits_none env (again n) h = refl

    Step_told : Opener → List Frame → Block → Type 0
    Step_told o K g = ((of_rank r (emit_at w g left) ≡ []) × First_in (move o K g (taken_at w g left))) ⊎ Received (of_rank r (emit_at w g left))

    live_step : (T : ℕ) (o : Opener) (K : List Frame) (g : Block) → live r o (env_of K) ≡ true → Keeps T (env_over o (env_of K)) g → Told (at_rank r (env_over o (env_of K))) g → Step_told o K g
    unfolding Step_told
    live_step T o K stop l c h = absurd h.first
    live_step T o K (message origin p' q' m g) l c h =
        elim (eqb_cases p' r) [
          | inl y ↦ absurd (subst (λ u. MatchBool u ⊥ (MatchBool (q' == r) (p' ≡ p) (Receives_first (at_rank r (env_over o (env_of K))) r p g))) y.1 h.first)
          | inr y ↦
              let first = subst (λ b. MatchBool b ⊥ (MatchBool (q' == r) (p' ≡ p) (Receives_first (at_rank r (env_over o (env_of K))) r p g))) y.1 h.first in
              elim (eqb_cases q' r) [
                | inl z ↦
                    let from : p' ≡ p = subst (λ b. MatchBool b (p' ≡ p) (Receives_first (at_rank r (env_over o (env_of K))) r p g)) z.1 first in
                    let ws = words_now w left p' q' m in
                    inr (record {
                      label = m;
                      words = ws;
                      rest = [];
                      is = subst (λ k. of_rank k (emit_at w (message origin p' q' m g) left) ≡ Recv p' m ws ∷ []) z.0 (message_receiver p' q' m ws c.2) ∙ ap (λ k. Recv k m ws ∷ []) from;
                      told = h.labels m (ap (λ b. cond b (m == m) (first_label (at_rank r (env_over o (env_of K))) r g m)) z.1 ∙ eq-eqb m m refl);
                    })
                | inr z ↦
                    inl (
                      message_other p' q' m _ r y.0 z.0,
                      first_live (record { opener = o; rest = g }) K l (record {
                        first = subst (λ b. MatchBool b (p' ≡ p) (Receives_first (at_rank r (env_over o (env_of K))) r p g)) z.1 first;
                        labels = λ x e. h.labels x (ap (λ b. cond b (m == x) (first_label (at_rank r (env_over o (env_of K))) r g x)) z.1 ∙ e);
                      }),
                    )
              ]
        ]
    live_step T o K (compute origin p' k g) l c h =
        elim (eqb_cases p' r) [
          | inl y ↦ absurd (subst (λ u. MatchBool u ⊥ (Receives_first (at_rank r (env_over o (env_of K))) r p g)) y.1 h.first)
          | inr y ↦ inl (internal_other p' r (Run k) y.0, first_live (record { opener = o; rest = g }) K l (record { first = subst (λ b. MatchBool b ⊥ (Receives_first (at_rank r (env_over o (env_of K))) r p g)) y.1 h.first; labels = h.labels }))
        ]
    live_step T o K (together origin j g) l c h = absurd h.first
    live_step T o K (choice origin p' k bs g) l c h =
        let e = at_rank r (env_over o (env_of K)) in
        let x = branch_now w left p' k bs in
        let here : Frame = record { opener = o; rest = g } in
        let top : Frame = record { opener = Chosen p' bs; rest = branch_at x bs } in
        elim (eqb_cases p' r) [
          | inl y ↦ absurd (subst (λ u. MatchBool u ⊥ (MatchBool (takes_part_among e r bs) (Receives_each e r p bs) (Receives_first e r p g))) y.1 h.first)
          | inr y ↦
              let first = subst (λ u. MatchBool u ⊥ (MatchBool (takes_part_among e r bs) (Receives_each e r p bs) (Receives_first e r p g))) y.1 h.first in
              elim (cases_Bool (takes_part_among e r bs)) [
                | inl z ↦
                    let all = subst (λ u. MatchBool u (Receives_each e r p bs) (Receives_first e r p g)) z first in
                    let labels : (i : ℕ) → first_label e r (branch_at x bs) i ≡ true → test i ≡ true = λ i f. h.labels i (ap (λ u. cond u (first_label_among e r bs i) (first_label e r g i)) z ∙ label_at e r bs x i f) in
                    inl (internal_other p' r _ y.0, first_live top (here ∷ K) (or_right (p' == r) (takes_part_among e r bs) z) (record { first = receives_in e r p bs x (branch_less w left p' k bs c.1) all; labels = labels }))
                | inr z ↦
                    let dead : in_choice e r p' bs ≡ false = ap₂ (λ u v. u || v) y.1 z in
                    inl (
                      internal_other p' r _ y.0,
                      first_put top (here ∷ K) dead (first_live here K l (record {
                        first = subst (λ u. MatchBool u (Receives_each e r p bs) (Receives_first e r p g)) z first;
                        labels = λ i f. h.labels i (ap (λ u. cond u (first_label_among e r bs i) (first_label e r g i)) z ∙ f);
                      })),
                    )
              ]
        ]
    live_step T o K (looped origin b g) l c h =
        let e = at_rank r (env_over o (env_of K)) in
        let here : Frame = record { opener = o; rest = g } in
        let top : Frame = record { opener = Body b; rest = b } in
        elim (cases_Bool (takes_part (false ∷ e) r b)) [
          | inl z ↦
              let told : Told (true ∷ e) b = record {
                first = subst (λ u. MatchBool u (Receives_first (true ∷ e) r p b) (Receives_first e r p g)) z h.first;
                labels = λ x f. h.labels x (ap (λ u. cond u (first_label (true ∷ e) r b x) (first_label e r g x)) z ∙ f);
              } in
              inl (refl, first_live top (here ∷ K) z (subst (λ u. Told (u ∷ e) b) (sym z) told))
          | inr z ↦
              inl (
                refl,
                first_put top (here ∷ K) z (first_live here K l (record {
                  first = subst (λ u. MatchBool u (Receives_first (true ∷ e) r p b) (Receives_first e r p g)) z h.first;
                  labels = λ x f. h.labels x (ap (λ u. cond u (first_label (true ∷ e) r b x) (first_label e r g x)) z ∙ f);
                })),
              )
        ]
    live_step T o K (again n) l c h = absurd h.first

    pub first_step : (T : ℕ) (o : Opener) (K : List Frame) (g : Block) → Clean r (record { opener = o; rest = g } ∷ K) → Keeps T (env_over o (env_of K)) g → First_in (record { opener = o; rest = g } ∷ K) → ((of_rank r (emit_at w g left) ≡ []) × First_in (move o K g (taken_at w g left))) ⊎ Received (of_rank r (emit_at w g left))
    unfolding Step_told
    first_step T o K g c k h =
        let f : Frame = record { opener = o; rest = g } in
        elim (cases_Bool (live r o (env_of K))) [
          | inl l ↦ live_step T o K g l k (first_told f K l h)
          | inr l ↦
              let out : takes_part (at_rank r (env_of (f ∷ K))) r g ≡ false = elim (cases_Bool (takes_part (at_rank r (env_of (f ∷ K))) r g)) [ inl y ↦ (let z = c.0 y in cc) | inr y ↦ y ] in
              let scope : (n : ℕ) → g ≡ again n → n < length (env_of (f ∷ K)) = λ n e. subst (λ x. Keeps T (env_over o (env_of K)) x) e k in
              inl (emits_none (at_rank r (env_of (f ∷ K))) g out, move_dead r First_in first_put first_drop f K (taken_at w g left) c scope l (first_drop f K l h))
        ]
