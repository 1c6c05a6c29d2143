-- What is followed is what the run does, and what is left is what the actions left.
use Rattle.std.proofs.Common.{◌≡◌, ℕ, suc, ◌+◌, ◌≤◌, ◌==◌, cond, inl, inr, List, [], ◌∷◌, ◌++◌, filter_map, Some, None, refl, sym, ap, subst, ◌∙◌, arith}
use Rattle.std.specs.List.{cons_option}
use Rattle.std.proofs.lemmas.List.{map-append}
use Rattle.pb_text.specs.declared.action.Action.{Action}
use Rattle.pb_world.specs.Actions as W
use Rattle.pb_world.specs.Actions.{Answers, AnswerTable, of_rank}
use Rattle.pb_world.specs.Log.{recorded, log_of, rank_of, branch_recorded, words_recorded}
use Rattle.pb_world.specs.Sequencer.{behind_first, answers_after, answers_after_all, state_after, emitted}
use Rattle.pb_world.proofs.Lists.{eqb_cases}
use Rattle.pb_core_language.specs.Run.{Setting, State, Frame, emit, emit_of, next}
use Rattle.pb_judge_ruling.specs.Ruling.{actions_of}
use Rattle.pb_judge_follow.specs.Follow.{Left, Fits, passed, AllFit, all_passed, answers_left, doing, moved, Goes, here, step}
use Rattle.pb_judge_follow.proofs.Passing.{fits_append, passed_append, used_most, used_same}

-- ---- the answers that an action uses are those of the entry that it fits

abbrev pub answers : List ℕ → List (List ℕ) → Answers
answers branches words = record { branches = branches; words = words }

abbrev pub answers_in : List Action → Answers
answers_in g = answers (filter_map branch_recorded g) (filter_map words_recorded g)

after_one : (p : ℕ) (a : W.Action) (b : List ℕ) (ws : List (List ℕ)) → answers_after a (answers (cons_option (branch_recorded (recorded p a)) b) (cons_option (words_recorded (recorded p a)) ws)) ≡ answers b ws
after_one p (W.Choose k n x) b ws = refl
after_one p (W.Run k) b ws = refl
after_one p (W.Send q l vs) b ws = refl
after_one p (W.Recv q l vs) b ws = refl
after_one p (W.Enter j []) b ws = refl
after_one p (W.Enter j (v ∷ vs)) b ws = refl
after_one p (W.Leave j vs) b ws = refl

after_none : (a : W.Action) → answers_after a (answers [] []) ≡ answers [] []
after_none (W.Choose k n x) = refl
after_none (W.Run k) = refl
after_none (W.Send q l vs) = refl
after_none (W.Recv q l vs) = refl
after_none (W.Enter j []) = refl
after_none (W.Enter j (v ∷ vs)) = refl
after_none (W.Leave j vs) = refl

after_fits : (p : ℕ) (a : W.Action) (es : List (ℕ × Action)) → Fits es (recorded p a) → answers_after a (answers_in (actions_of es)) ≡ answers_in (actions_of (behind_first es))
after_fits p a [] h = after_none a
after_fits p a (e ∷ es) h =
    subst (λ x. answers_after a (answers (cons_option (branch_recorded x) (filter_map branch_recorded (actions_of es))) (cons_option (words_recorded x) (filter_map words_recorded (actions_of es)))) ≡ answers_in (actions_of es))
    (sym h) (after_one p a (filter_map branch_recorded (actions_of es)) (filter_map words_recorded (actions_of es)))

pub rank_recorded : (p : ℕ) (a : W.Action) → rank_of (recorded p a) ≡ p
rank_recorded p (W.Choose k n x) = refl
rank_recorded p (W.Run k) = refl
rank_recorded p (W.Send q l vs) = refl
rank_recorded p (W.Recv q l vs) = refl
rank_recorded p (W.Enter j vs) = refl
rank_recorded p (W.Leave j vs) = refl

used_one : (x : ℕ × W.Action) (xs : List (ℕ × W.Action)) (left : Left) (r : ℕ) → Fits (left.entries (rank_of (recorded x.0 x.1))) (recorded x.0 x.1) →
    answers_after_all (of_rank r (x ∷ xs)) (answers_left left r) ≡ answers_after_all (of_rank r xs) (answers_left (passed (recorded x.0 x.1) left) r)
used_one x xs left r h =
    let b = recorded x.0 x.1 in
    let e = rank_recorded x.0 x.1 in
    elim (eqb_cases x.0 r) [
      | inl y ↦ ap (λ t. answers_after_all (cons_option (cond t (Some x.1) None) (of_rank r xs)) (answers_left left r)) y.1
          ∙ ap (answers_after_all (of_rank r xs)) (after_fits x.0 x.1 (left.entries r) (subst (λ q. Fits (left.entries q) b) (e ∙ y.0) h))
          ∙ ap (λ t. answers_after_all (of_rank r xs) (answers_in (actions_of (cond t (behind_first (left.entries r)) (left.entries r))))) (sym (ap (λ q. q == r) e ∙ y.1))
      | inr y ↦ ap (λ t. answers_after_all (cons_option (cond t (Some x.1) None) (of_rank r xs)) (answers_left left r)) y.1
          ∙ ap (λ t. answers_after_all (of_rank r xs) (answers_in (actions_of (cond t (behind_first (left.entries r)) (left.entries r))))) (sym (ap (λ q. q == r) e ∙ y.1))
    ]

pub used : (xs : List (ℕ × W.Action)) (left : Left) (r : ℕ) → AllFit (log_of xs) left → answers_after_all (of_rank r xs) (answers_left left r) ≡ answers_left (all_passed (log_of xs) left) r
used [] left r h = refl
used (x ∷ xs) left r h = used_one x xs left r h.0 ∙ used xs (passed (recorded x.0 x.1) left) r h.1

-- ---- states

abbrev pub state : List Frame → Left → State
state K left = record { stack = K; left = answers_left left }

module _ (s : Setting) where
  -- what so many steps from a state do, as it is recorded
  abbrev pub done : ℕ → State → List Action
  done n q = log_of (emitted (emit s) (next s) n q)

  next_is : (K : List Frame) (left : Left) → AllFit (doing s K left) left → next s (state K left) ≡ state (moved s K left) (all_passed (doing s K left) left)
  next_is K left h = λ i. record { stack = moved s K left; left = λ r. used (emit_of s K (answers_left left)) left r h i }

  pub goes_state : {n : ℕ} {K L : List Frame} {left end : Left} → Goes s n K left L end → state_after (emit s) (next s) n (state K left) ≡ state L end
  goes_state here = refl
  goes_state (step {n = n} {K = K} {left = left} h g) = ap (state_after (emit s) (next s) n) (next_is K left h) ∙ goes_state g

  done_more : (n : ℕ) (K : List Frame) (left : Left) → AllFit (doing s K left) left → done (suc n) (state K left) ≡ doing s K left ++ done n (state (moved s K left) (all_passed (doing s K left) left))
  done_more n K left h =
      map-append (λ step. recorded step.0 step.1) (emit s (state K left)) (emitted (emit s) (next s) n (next s (state K left)))
      ∙ ap (λ q. doing s K left ++ done n q) (next_is K left h)

  pub goes_fits : {n : ℕ} {K L : List Frame} {left end : Left} → Goes s n K left L end → AllFit (done n (state K left)) left
  goes_fits here = tt
  goes_fits (step {n = n} {K = K} {left = left} h g) =
      subst (λ g. AllFit g left) (sym (done_more n K left h)) (fits_append (doing s K left) (done n (state (moved s K left) (all_passed (doing s K left) left))) left h (goes_fits g))

  pub goes_passed : {n : ℕ} {K L : List Frame} {left end : Left} → Goes s n K left L end → end ≡ all_passed (done n (state K left)) left
  goes_passed here = refl
  goes_passed (step {n = n} {K = K} {left = left} h g) =
      goes_passed g ∙ sym (passed_append (doing s K left) (done n (state (moved s K left) (all_passed (doing s K left) left))) left) ∙ ap (λ g. all_passed g left) (sym (done_more n K left h))

  -- one way behind another
  pub goes_then : {m n : ℕ} {K L M : List Frame} {left mid end : Left} → Goes s m K left L mid → Goes s n L mid M end → (k : ℕ) × (m + n ≡ k) × Goes s k K left M end
  goes_then {n = n} here h = (n, omega arith, h)
  goes_then (step f g) h =
      let more = goes_then g h in
      let e = more.1 in (suc more.0, omega (arith, e), step f more.2)

  pub goes_used : {n : ℕ} {K L : List Frame} {left end : Left} → Goes s n K left L end → left.used ≤ end.used
  goes_used {n = n} {K = K} {left = left} g = subst (λ l. left.used ≤ l.used) (sym (goes_passed g)) (used_most (done n (state K left)) left)

  pub goes_same : {n : ℕ} {K L : List Frame} {left end : Left} → Goes s n K left L end → end.used ≡ left.used → (r : ℕ) → end.entries r ≡ left.entries r
  goes_same {n = n} {K = K} {left = left} g e r =
      let is = goes_passed g in
      ap (λ l. l.entries r) is ∙ used_same (done n (state K left)) left (ap (λ l. l.used) (sym is) ∙ e) r
