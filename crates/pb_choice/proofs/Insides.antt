-- The breaches of branches are those of the rules at the branches themselves, and those inside.
use Rattle.std.proofs.Common.{inl, inr, ℕ, ℤ, Bool, List, ◌++◌, refl}
use Rattle.pb_affine.specs.declared.range.NRange.{NRange}
use Rattle.pb_core_language.specs.declared.protocol.CoreRole.{CoreRole}
use Rattle.pb_core_language.specs.Outcomes.{Outcome}
use Rattle.pb_core_language.specs.Run.{Env}
use Rattle.pb_core_language.specs.Tree.{BranchTrees, no_branch, branch}
use Rattle.pb_core_language.specs.Verdict.{Broken}
use Rattle.pb_choice.specs.Flaws.{IsFlaw, no_flaws, both, of_rules, of_block, of_branches, of_tellings, of_insides, found_in, misses}
use Rattle.pb_choice.proofs.FlawSteps.{SameFlaws, same_back, carried, either, first_one, second_one}
use Rattle.pb_choice.proofs.Parts.{of_branch, branch_parts}

module _ (range : NRange) (roles : List CoreRole) (env : ℤ → Env) (opens : List ℕ) (test : ℤ → ℕ → ℤ → Bool) where
  no_more : (before : ℤ → ℕ → ℤ → List Outcome) → SameFlaws (of_branches roles env opens test before no_branch) (both no_flaws no_flaws)
  no_more before = record { lone = λ n. refl; told = λ k n role x. refl }

  pub to_parts : (before : ℤ → ℕ → ℤ → List Outcome) (bs : BranchTrees) (c : Broken) →
      IsFlaw range roles (of_branches roles env opens test before bs) c → IsFlaw range roles (both (of_tellings roles env opens test before bs) (of_insides roles env opens bs)) c
  to_parts before no_branch c f = carried range roles (of_branches roles env opens test before no_branch) (both no_flaws no_flaws) c (no_more before) f
  to_parts before (branch m b bs) c f =
      let beyond : ℤ → ℕ → ℤ → List Outcome = λ n role x. before n role x ++ found_in roles env opens b n role x in
      let rules = of_rules m (λ k n role x. misses test (before n role x) (found_in roles env opens b n role x) k n role x) in
      let inside = of_block roles env opens b in
      let own = of_branch roles env opens test before m b in
      let others = of_branches roles env opens test beyond bs in
      let tellings = of_tellings roles env opens test beyond bs in
      let insides = of_insides roles env opens bs in
      let left : (IsFlaw range roles (both rules tellings) c → IsFlaw range roles (both (both rules tellings) (both inside insides)) c) = first_one range roles (both rules tellings) (both inside insides) c in
      let right : (IsFlaw range roles (both inside insides) c → IsFlaw range roles (both (both rules tellings) (both inside insides)) c) = second_one range roles (both rules tellings) (both inside insides) c in
      elim (either range roles own others c (carried range roles (of_branches roles env opens test before (branch m b bs)) (both own others) c (branch_parts roles env opens test before m b bs) f)) [
        | inl here ↦ elim (either range roles rules inside c here) [
          | inl rule ↦ left (first_one range roles rules tellings c rule)
          | inr there ↦ right (first_one range roles inside insides c there)
        ]
        | inr rest ↦ elim (either range roles tellings insides c (to_parts beyond bs c rest)) [
          | inl rule ↦ left (second_one range roles rules tellings c rule)
          | inr there ↦ right (second_one range roles inside insides c there)
        ]
      ]

  pub from_parts : (before : ℤ → ℕ → ℤ → List Outcome) (bs : BranchTrees) (c : Broken) →
      IsFlaw range roles (both (of_tellings roles env opens test before bs) (of_insides roles env opens bs)) c → IsFlaw range roles (of_branches roles env opens test before bs) c
  from_parts before no_branch c f =
      carried range roles (both no_flaws no_flaws) (of_branches roles env opens test before no_branch) c (same_back (of_branches roles env opens test before no_branch) (both no_flaws no_flaws) (no_more before)) f
  from_parts before (branch m b bs) c f =
      let beyond : ℤ → ℕ → ℤ → List Outcome = λ n role x. before n role x ++ found_in roles env opens b n role x in
      let rules = of_rules m (λ k n role x. misses test (before n role x) (found_in roles env opens b n role x) k n role x) in
      let inside = of_block roles env opens b in
      let own = of_branch roles env opens test before m b in
      let others = of_branches roles env opens test beyond bs in
      let tellings = of_tellings roles env opens test beyond bs in
      let insides = of_insides roles env opens bs in
      let rest : (IsFlaw range roles (both tellings insides) c → IsFlaw range roles (both own others) c) = λ g. second_one range roles own others c (from_parts beyond bs c g) in
      carried range roles (both own others) (of_branches roles env opens test before (branch m b bs)) c
      (same_back (of_branches roles env opens test before (branch m b bs)) (both own others) (branch_parts roles env opens test before m b bs))
      (elim (either range roles (both rules tellings) (both inside insides) c f) [
        | inl told ↦ elim (either range roles rules tellings c told) [
          | inl rule ↦ first_one range roles own others c (first_one range roles rules inside c rule)
          | inr later ↦ rest (first_one range roles tellings insides c later)
        ]
        | inr held ↦ elim (either range roles inside insides c held) [
          | inl there ↦ first_one range roles own others c (second_one range roles rules inside c there)
          | inr later ↦ rest (second_one range roles tellings insides c later)
        ]
      ])
