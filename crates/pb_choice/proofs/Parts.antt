-- The breaches of a block, a statement and branches, as those of their parts.
use Rattle.std.proofs.Common.{◌≡◌, ℕ, ℤ, pos, Bool, true, List, [], ◌∷◌, ◌++◌, if◌then◌else◌, refl, sym, ap, append-nil, append_assoc}
use Rattle.std.proofs.lemmas.Bool.{false≢true}
use Rattle.pb_core_language.specs.declared.protocol.CoreRole.{CoreRole}
use Rattle.pb_core_language.specs.declared.tree.CoreEnd.{CoreEnd}
use Rattle.pb_core_language.specs.Ranks.{total}
use Rattle.pb_core_language.specs.Tree.{Mark, StmtTree, message, foreach, loop, again, choice, run, barrier, broadcast, reduce, allreduce, BlockTree, more, BranchTrees, branch, is_again}
use Rattle.pb_core_language.specs.declared.tree.Bounds.{Bounds}
use Rattle.pb_core_language.specs.Flat.{stop}
use Rattle.pb_core_language.specs.FlatOf.{flat_block, flat_branches}
use Rattle.pb_core_language.specs.Run.{Env, at_rank}
use Rattle.pb_core_language.specs.Rules.{deserted, deserted_among, misfits, misfits_among}
use Rattle.pb_core_language.specs.Outcomes.{Outcome}
use Rattle.pb_core_flat.specs.Seated.{rank}
use Rattle.pb_core_flat.specs.GoesOn.{goes_on, are_items}
use Rattle.pb_core_flat.proofs.BreachesAdd.{misfits_one_by_one, deserted_one_by_one, each_keeps_rules}
use Rattle.pb_choice.specs.declared.rule.ChoiceRule.{ChoiceRule}
use Rattle.pb_choice.specs.declared.rule.ChoiceRule.TheVariants.{OnlyReceives, OneSource, OwnLabels}
use Rattle.pb_choice.specs.Flaws.{Flaws, fits_of, both, no_flaws, flaw_at, lone_at, of_rules, of_block, of_stmt, of_branches, is_told, env_in, is_deserted, found_in, misses}
use Rattle.pb_choice.proofs.FlawSteps.{SameFlaws}

module _ (roles : List CoreRole) (env : ℤ → Env) (opens : List ℕ) where
  pub block_parts : (m : Mark) (s : StmtTree) (b : BlockTree) → goes_on s ≡ true →
      SameFlaws (of_block roles env opens (more m s b)) (both (of_stmt roles env opens m s) (of_block roles env opens b))
  block_parts m s b h = record {
    lone = λ n. deserted_one_by_one (total roles n) (env n) roles n (pos 0) opens m s (flat_block roles n opens (pos 0) b stop) h;
    told = λ k n role x. misfits_one_by_one (fits_of k) roles n (pos 0) (rank roles n role x) (at_rank (rank roles n role x) (env n)) opens m s (flat_block roles n opens (pos 0) b stop) h;
  }

  -- what stands behind a continue isn't come to
  pub again_parts : (m : Mark) (s : StmtTree) (b : BlockTree) → is_again s ≡ true → SameFlaws (of_block roles env opens (more m s b)) no_flaws
  again_parts m (again id) b h = record { lone = λ n. refl; told = λ k n role x. refl }
  again_parts m (message l f t) b h = absurd (false≢true h)
  again_parts m (foreach c k items) b h = absurd (false≢true h)
  again_parts m (loop id k body) b h = absurd (false≢true h)
  again_parts m (choice k at bs) b h = absurd (false≢true h)
  again_parts m (run k at) b h = absurd (false≢true h)
  again_parts m barrier b h = absurd (false≢true h)
  again_parts m (broadcast l root) b h = absurd (false≢true h)
  again_parts m (reduce l op root) b h = absurd (false≢true h)
  again_parts m (allreduce l op) b h = absurd (false≢true h)

  pub each_parts : (m k : Mark) (c : Bounds) (items : BlockTree) → are_items items ≡ true → SameFlaws (of_stmt roles env opens m (foreach c k items)) no_flaws
  each_parts m k c items h = record {
    lone = λ n. (each_keeps_rules (fits_of OnlyReceives) (total roles n) (env n) 0 roles n (pos 0) 0 [] opens m c k items h).1;
    told = λ j n role x. (each_keeps_rules (fits_of j) (total roles n) (env n) 0 roles n (pos 0) (rank roles n role x) (at_rank (rank roles n role x) (env n)) opens m c k items h).0;
  }

  pub loop_parts : (m k : Mark) (id : ℕ) (body : BlockTree) →
      SameFlaws (of_stmt roles env opens m (loop id k body)) (both (lone_at m (is_deserted roles env opens id body)) (of_block roles (env_in roles env opens id body) (id ∷ opens) body))
  loop_parts m k id body = record {
    lone = λ n. ap (λ z. (if is_deserted roles env opens id body n then m ∷ [] else []) ++ z) (append-nil (deserted (total roles n) (env_in roles env opens id body n) (flat_block roles n (id ∷ opens) (pos 0) body stop)));
    told = λ j n role x. append-nil (misfits (fits_of j) (at_rank (rank roles n role x) (env_in roles env opens id body n)) (rank roles n role x) (flat_block roles n (id ∷ opens) (pos 0) body stop));
  }

  pub choice_parts : (m : Mark) (k : ℕ) (at : CoreEnd) (bs : BranchTrees) →
      SameFlaws (of_stmt roles env opens m (choice k at bs)) (of_branches roles env opens (is_told roles env opens at bs) (λ n role x. []) bs)
  choice_parts m k at bs = record {
    lone = λ n. append-nil (deserted_among (total roles n) (env n) (flat_branches roles n opens (pos 0) bs));
    told = λ j n role x. append-nil (misfits_among (fits_of j) (at_rank (rank roles n role x) (env n)) (rank roles n role x) (is_told roles env opens at bs n role x) [] (flat_branches roles n opens (pos 0) bs));
  }

  -- of a branch itself: the three rules at its mark, and what is in it
  abbrev pub of_branch : (ℤ → ℕ → ℤ → Bool) → (ℤ → ℕ → ℤ → List Outcome) → Mark → BlockTree → Flaws
  of_branch told before m b = both (of_rules m (λ k n role x. misses told (before n role x) (found_in roles env opens b n role x) k n role x)) (of_block roles env opens b)

  pub branch_parts : (told : ℤ → ℕ → ℤ → Bool) (before : ℤ → ℕ → ℤ → List Outcome) (m : Mark) (b : BlockTree) (bs : BranchTrees) →
      SameFlaws (of_branches roles env opens told before (branch m b bs))
      (both (of_branch told before m b) (of_branches roles env opens told (λ n role x. before n role x ++ found_in roles env opens b n role x) bs))
  branch_parts told before m b bs = record {
    lone = λ n. refl;
    told = λ k n role x. sym (append_assoc (if misses told (before n role x) (found_in roles env opens b n role x) k n role x then m ∷ [] else [])
        ((of_block roles env opens b).told k n role x) ((of_branches roles env opens told (λ n role x. before n role x ++ found_in roles env opens b n role x) bs).told k n role x));
  }

-- the three rules one after the other
pub rules_parts : (m : Mark) (miss : ChoiceRule → ℤ → ℕ → ℤ → Bool) →
    SameFlaws (of_rules m miss) (both (flaw_at OnlyReceives m (miss OnlyReceives)) (both (flaw_at OneSource m (miss OneSource)) (flaw_at OwnLabels m (miss OwnLabels))))
rules_parts m miss = record { lone = λ n. refl; told = by_rule } where
  by_rule : (k : ChoiceRule) (n : ℤ) (role : ℕ) (x : ℤ) → (of_rules m miss).told k n role x
      ≡ (both (flaw_at OnlyReceives m (miss OnlyReceives)) (both (flaw_at OneSource m (miss OneSource)) (flaw_at OwnLabels m (miss OwnLabels)))).told k n role x
  by_rule OnlyReceives n role x = sym (append-nil (if miss OnlyReceives n role x then m ∷ [] else []))
  by_rule OneSource n role x = sym (append-nil (if miss OneSource n role x then m ∷ [] else []))
  by_rule OwnLabels n role x = refl
