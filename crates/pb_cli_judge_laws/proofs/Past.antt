-- Numbers from the number of ranks on do nothing in a sequential run.
use Rattle.std.proofs.Common.{◌≡◌, ◌≢◌, ℕ, zero, suc, ◌<◌, ◌≤◌, cond, List, [], ◌∷◌, ◌++◌, Some, None, refl, sym, ap, subst, ◌∙◌, arith}
use Rattle.std.specs.List.{AllByRecursion, cons_option}
use Rattle.pb_world.specs.Actions.{Action, Enter, Leave, of_rank, AnswerTable, IsPrefixOf}
use Rattle.pb_world.specs.Family.{Family, IsSequential, each, Statement, nothing, internal, message, joint}
use Rattle.pb_world.proofs.Lists.{not_eqb}
use Rattle.pb_judge_told.proofs.Words.{all_append}

abbrev AreBelow : ℕ → List (ℕ × Action) → Type 0
AreBelow total w = AllByRecursion (λ step. step.0 < total) w

nothing_past : (total r : ℕ) (w : List (ℕ × Action)) → total ≤ r → AreBelow total w → of_rank r w ≡ []
nothing_past total r [] le h = refl
nothing_past total r (step ∷ w) le h =
    let lt : step.0 < total = h.0 in
    let apart : step.0 ≢ r = λ e. absurd (omega (arith, lt, le, e)) in
    ap (λ b. cons_option (cond b (Some step.1) None) (of_rank r w)) (not_eqb step.0 r apart) ∙ nothing_past total r w le h.1

each_below : (total n : ℕ) (f : ℕ → Action) → n ≤ total → AreBelow total (each n f)
each_below total zero f le = tt
each_below total (suc n) f le = all_append (λ (step : ℕ × Action). step.0 < total) (each n f) ((n, f n) ∷ []) (each_below total n f (omega (arith, le))) (omega (arith, le), tt)

module _ {S : Type 0} (F : Family S) where
  statement_below : (st : List (ℕ × Action)) → Statement F st → AreBelow F.total st
  statement_below st nothing = tt
  statement_below st (internal lt is) = (lt, tt)
  statement_below st (message one other apart) = (one, (other, tt))
  statement_below st (joint j words) =
      all_append (λ (step : ℕ × Action). step.0 < F.total) (each F.total (λ p. Enter j (words p))) (each F.total (λ p. Leave j (F.outcome j p words)))
      (each_below F.total F.total (λ p. Enter j (words p)) (omega arith)) (each_below F.total F.total (λ p. Leave j (F.outcome j p words)) (omega arith))

  run_below : IsSequential F → (A : AnswerTable) (m : ℕ) → AreBelow F.total (F.run A m)
  run_below seq A zero = subst (AreBelow F.total) (sym (seq.starts A)) tt
  run_below seq A (suc m) =
      let step = seq.steps A m in
      subst (AreBelow F.total) (sym step.2) (all_append (λ (s : ℕ × Action). s.0 < F.total) (F.run A m) step.0 (run_below seq A m) (statement_below step.0 step.1))

  pub run_past : IsSequential F → (A : AnswerTable) (m r : ℕ) → F.total ≤ r → of_rank r (F.run A m) ≡ []
  run_past seq A m r le = nothing_past F.total r (F.run A m) le (run_below seq A m)

-- what begins nothing is nothing
pub begins_nothing : {A : Type 0} (xs ys : List A) → IsPrefixOf xs ys → ys ≡ [] → xs ≡ []
begins_nothing [] ys h e = refl
begins_nothing (x ∷ xs) ys h e = let n : x ∷ (xs ++ h.0) ≡ [] = h.1 ∙ e in absurd cc
