-- What is recorded of a run: of two lengths one begins the other, and behind its end nothing is added.
use Rattle.std.proofs.Common.{◌≡◌, ℕ, zero, suc, ◌+◌, ◌-◌, ◌≤◌, ◌==◌, cond, Bool, true, false, ◌⊎◌, inl, inr, List, [], ◌∷◌, ◌++◌, slice_get, Option, Some, None, refl, sym, ap, subst, ◌∙◌, arith, append-nil, append_assoc}
use Rattle.std.specs.List.{cons_option}
use Rattle.std.proofs.lemmas.List.{map-append}
use Rattle.pb_text.specs.declared.action.Action.{Action}
use Rattle.pb_world.specs.Actions as W
use Rattle.pb_world.specs.Actions.{AnswerTable, IsPrefixOf}
use Rattle.pb_world.specs.Log.{recorded, log_of, rank_of, entry_by, log_of_rank, log_answers}
use Rattle.pb_world.specs.Sequencer.{emitted, state_after}
use Rattle.pb_world.proofs.Lists.{prefix_refl, prefix_filter, prefix_get}
use Rattle.pb_core_language.specs.Flat.{Block}
use Rattle.pb_core_language.specs.Run.{Setting, State, Frame, emit, next, seq, is_over, is_over_at, first_state}
use Rattle.pb_judge_ruling.specs.Ruling.{actions_of, entries_of, run, ends_by}

-- ---- a rank's entries are its actions

with_entry : (r : ℕ) (e : ℕ × Action) (log : List (ℕ × Action)) → actions_of (entries_of r log) ≡ log_of_rank r (actions_of log) → (b : Bool) → (rank_of e.1 == r) ≡ b
    → actions_of (cond b (e ∷ entries_of r log) (entries_of r log)) ≡ log_of_rank r (e.1 ∷ actions_of log)
with_entry r e log more true t = ap (λ xs. e.1 ∷ xs) more ∙ sym (ap (λ b. cons_option (cond b (Some e.1) None) (log_of_rank r (actions_of log))) t)
with_entry r e log more false t = more ∙ sym (ap (λ b. cons_option (cond b (Some e.1) None) (log_of_rank r (actions_of log))) t)

pub entries_actions : (r : ℕ) (log : List (ℕ × Action)) → actions_of (entries_of r log) ≡ log_of_rank r (actions_of log)
entries_actions r [] = refl
entries_actions r (e ∷ log) = with_entry r e log (entries_actions r log) (rank_of e.1 == r) refl

get_action : (xs : List (ℕ × Action)) (k : ℕ) (x : ℕ × Action) → slice_get xs k ≡ Some x → slice_get (actions_of xs) k ≡ Some x.1
get_action [] k x h = absurd cc
get_action (y ∷ xs) zero x h = let e : y ≡ x = cc in ap (λ (z : ℕ × Action). Some z.1) e
get_action (y ∷ xs) (suc k) x h = get_action xs k x h

pub entry_action : (r k : ℕ) (log : List (ℕ × Action)) (line : ℕ) (a : Action) → slice_get (entries_of r log) k ≡ Some (line, a) → slice_get (log_of_rank r (actions_of log)) k ≡ Some a
entry_action r k log line a h = ap (λ xs. slice_get xs k) (sym (entries_actions r log)) ∙ get_action (entries_of r log) k (line, a) h

-- ---- two lengths of a run

-- nothing is done where nothing is left
stopped : (s : Setting) (m : ℕ) (K : List Frame) (A : AnswerTable) → is_over_at K ≡ true → emitted (emit s) (next s) m (record { stack = K; left = A }) ≡ []
stopped s zero K A e = refl
stopped s (suc m) [] A e = stopped s m [] (next s (record { stack = []; left = A })).left refl
stopped s (suc m) (f ∷ K) A e = absurd cc

pub split : (s : Setting) (m more : ℕ) (q : State) → emitted (emit s) (next s) (m + more) q ≡ emitted (emit s) (next s) m q ++ emitted (emit s) (next s) more (state_after (emit s) (next s) m q)
split s zero more q = let e : 0 + more ≡ more = omega arith in ap (λ k. emitted (emit s) (next s) k q) e
split s (suc m) more q =
    let e : suc m + more ≡ suc (m + more) = omega arith in
    ap (λ k. emitted (emit s) (next s) k q) e ∙ ap (λ xs. emit s q ++ xs) (split s m more (next s q)) ∙ sym (append_assoc (emit s q) (emitted (emit s) (next s) m (next s q)) _)

pub over_same : (s : Setting) (protocol : Block) (A : AnswerTable) (m more : ℕ) → is_over s protocol A m ≡ true → seq s protocol A (m + more) ≡ seq s protocol A m
over_same s protocol A m more e =
    let q = state_after (emit s) (next s) m (first_state s protocol A) in
    split s m more (first_state s protocol A) ∙ ap (λ xs. seq s protocol A m ++ xs) (stopped s more q.stack q.left e) ∙ append-nil (seq s protocol A m)

extends : (s : Setting) (protocol : Block) (A : AnswerTable) (m more : ℕ) → IsPrefixOf (seq s protocol A m) (seq s protocol A (m + more))
extends s protocol A m more =
    (emitted (emit s) (next s) more (state_after (emit s) (next s) m (first_state s protocol A)), sym (split s m more (first_state s protocol A)))

prefix_map : (xs ys : List (ℕ × W.Action)) → IsPrefixOf xs ys → IsPrefixOf (log_of xs) (log_of ys)
prefix_map xs ys p = (log_of p.0, sym (map-append (λ step. recorded step.0 step.1) xs p.0) ∙ ap log_of p.1)

module _ (s : Setting) (protocol : Block) (log : List (ℕ × Action)) where
  abbrev A : AnswerTable
  A = log_answers (actions_of log)

  pub longer : (m n : ℕ) → m ≤ n → IsPrefixOf (run s protocol log m) (run s protocol log n)
  longer m n le =
      let e : m + (n - m) ≡ n = omega (arith, le) in
      subst (λ k. IsPrefixOf (run s protocol log m) (run s protocol log k)) e (prefix_map (seq s protocol A m) (seq s protocol A (m + (n - m))) (extends s protocol A m (n - m)))

  pub rank_longer : (r m n : ℕ) → m ≤ n → IsPrefixOf (log_of_rank r (run s protocol log m)) (log_of_rank r (run s protocol log n))
  rank_longer r m n le = prefix_filter (entry_by r) (run s protocol log m) (run s protocol log n) (longer m n le)

  pub either : (m n : ℕ) → (m ≤ n) ⊎ (n ≤ m)
  either m n = grind arith

  -- a run that has ended has done all
  pub ended_longest : (m n : ℕ) → ends_by s protocol log m → IsPrefixOf (run s protocol log n) (run s protocol log m)
  ended_longest m n e = elim (either n m) [
    | inl le ↦ longer n m le
    | inr le ↦ (let k : m + (n - m) ≡ n = omega (arith, le) in
        let same : run s protocol log n ≡ run s protocol log m = ap (run s protocol log) (sym k) ∙ ap log_of (over_same s protocol A m (n - m) e) in
        subst (λ xs. IsPrefixOf (run s protocol log n) xs) same (prefix_refl (run s protocol log n)))
  ]

  -- at one place of a rank's list each length of the run has the same
  pub same_place : (r k m n : ℕ) (x y : Action) → slice_get (log_of_rank r (run s protocol log m)) k ≡ Some x → slice_get (log_of_rank r (run s protocol log n)) k ≡ Some y → x ≡ y
  same_place r k m n x y a b = elim (either m n) [
    | inl le ↦ one (sym (prefix_get _ _ k x (rank_longer r m n le) a) ∙ b)
    | inr le ↦ one (sym a ∙ prefix_get _ _ k y (rank_longer r n m le) b)
  ] where
    one : {u v : Action} → ◌≡◌ {A = Option Action} (Some u) (Some v) → u ≡ v
    one e = cc
