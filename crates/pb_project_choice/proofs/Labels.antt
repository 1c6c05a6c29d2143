-- The labels that a rank receives first are among those of a sound block.
use Rattle.std.proofs.Common.{◌≡◌, ◌<◌, ◌⊎◌, ℕ, zero, suc, ◌==◌, ℤ, pos, cond, Bool, true, false, not, ◌&&◌, inl, inr, List, [], ◌∷◌, sym, ◌∙◌, subst}
use Rattle.std.specs.Prelude.{nat_lt}
use Rattle.std.proofs.lemmas.Bool.{and_parts, or_cases, false≢true, eqb-true, ltb-true}
use Rattle.pb_affine.specs.Values.{value, range}
use Rattle.pb_core_language.specs.declared.protocol.CoreRole.{CoreRole}
use Rattle.pb_core_language.specs.Sound.{Rows, is_end, is_bound, has_branch, is_stmt, is_block, are_branches}
use Rattle.pb_core_language.specs.Tree as T
use Rattle.pb_core_language.specs.Tree.{Mark, StmtTree, foreach, loop, run, barrier, broadcast, reduce, allreduce, BlockTree, nothing, more, BranchTrees}
use Rattle.pb_core_language.specs.Lists.{nth}
use Rattle.pb_core_language.specs.Flat.{Block, stop, takes_part, takes_part_among, branch_at}
use Rattle.pb_core_language.specs.FlatOf.{for_each, between, rank_of, flat_stmt, flat_block, flat_branches}
use Rattle.pb_core_language.specs.Outcomes.{Outcome, nothing_first, receives, other_first, again_first, or_then, firsts, firsts_among}
use Rattle.pb_core_flat.specs.OutcomeSets.{outcome_eq, is_outcome}
use Rattle.pb_core_flat.proofs.OutcomeSets.{either_outcome, is_append}

module _ (s l : ℕ) where
  abbrev has_it : List Outcome → Type 0
  has_it os = is_outcome (receives s l) os ≡ true

  in_message : (a b : Bool) (p k : ℕ) (os : List Outcome) → has_it (cond a (other_first ∷ []) (cond b (receives p k ∷ []) os)) → (k ≡ l) ⊎ has_it os
  in_message true b p k os h = absurd (false≢true h)
  in_message false true p k os h =
      elim (or_cases (outcome_eq (receives p k) (receives s l)) false h) [
        | inl e ↦ inl (eqb-true k l (and_parts (p == s) (k == l) e).1)
        | inr e ↦ absurd (false≢true e)
      ]
  in_message false false p k os h = inr h

  in_compute : (a : Bool) (os : List Outcome) → has_it (cond a (other_first ∷ []) os) → has_it os
  in_compute true os h = absurd (false≢true h)
  in_compute false os h = h

  in_both : (os rest : List Outcome) → has_it (or_then os rest) → has_it os ⊎ has_it rest
  in_both os rest h =
      elim (or_cases (not false && is_outcome (receives s l) os) (is_outcome nothing_first os && is_outcome (receives s l) rest) (sym (either_outcome (receives s l) os rest) ∙ h)) [
        | inl e ↦ inl e
        | inr e ↦ inr (and_parts (is_outcome nothing_first os) (is_outcome (receives s l) rest) e).1
      ]

  in_parts : (t : Bool) (os rest : List Outcome) → has_it (cond t (or_then os rest) rest) → has_it os ⊎ has_it rest
  in_parts true os rest h = in_both os rest h
  in_parts false os rest h = inr h

  in_again : (t : Bool) → has_it (cond t (again_first ∷ []) (nothing_first ∷ [])) → ⊥
  in_again true h = false≢true h
  in_again false h = false≢true h

  module _ (rows : Rows) (roles : List CoreRole) (n : ℤ) (r : ℕ) where
    -- in no loops does it receive first with a label that isn't there
    abbrev IsKnown : Block → Type 0
    IsKnown g = (held : List Bool) → has_it (firsts held r g) → l < rows.labels

    each_known : (f : ℤ → Block → Block) → ((x : ℤ) (g : Block) → IsKnown g → IsKnown (f x g)) → (xs : List ℤ) (g : Block) → IsKnown g → IsKnown (for_each xs f g)
    each_known f h [] g k = k
    each_known f h (x ∷ xs) g k = h x (for_each xs f g) (each_known f h xs g k)

    none_known : IsKnown stop
    none_known held o = absurd (false≢true o)

    mutual
      stmt_known : (varies : Bool) (opens ids : List ℕ) (i : ℤ) (m : Mark) (z : StmtTree) (g : Block) → is_stmt rows varies ids z ≡ true → IsKnown g → IsKnown (flat_stmt roles n opens i m z g)
      stmt_known varies opens ids i m (T.message k f t) g sound h = λ held o.
          elim (in_message (rank_of roles n f i == r) (rank_of roles n t i == r) (rank_of roles n f i) k (firsts held r g) o) [
            | inl y ↦ subst (λ z. z < rows.labels) y (ltb-true k rows.labels (and_parts (nat_lt k rows.labels) (is_end rows varies f && is_end rows varies t) sound).0)
            | inr y ↦ h held y
          ]
      stmt_known varies opens ids i m (foreach b k items) g sound h =
          let inner = (and_parts (is_bound b.high) (is_block rows true ids items) (and_parts (is_bound b.low) (is_bound b.high && is_block rows true ids items) sound).1).1 in
          each_known (λ x. flat_block roles n opens x items) (λ x g k. block_known true opens ids x items g inner k) (range (value b.low n i) (value b.high n i)) g h
      stmt_known varies opens ids i m (loop id k body) g sound h = λ held o.
          let inner : is_block rows false (id ∷ ids) body ≡ true = (and_parts _ (is_block rows false (id ∷ ids) body) sound).1 in
          elim (in_parts (takes_part (false ∷ held) r (flat_block roles n (id ∷ opens) i body stop))
          (firsts (takes_part (false ∷ held) r (flat_block roles n (id ∷ opens) i body stop) ∷ held) r (flat_block roles n (id ∷ opens) i body stop)) (firsts held r g) o) [
            | inl y ↦ block_known false (id ∷ opens) (id ∷ ids) i body stop inner none_known (takes_part (false ∷ held) r (flat_block roles n (id ∷ opens) i body stop) ∷ held) y
            | inr y ↦ h held y
          ]
      stmt_known varies opens ids i m (T.again id) g sound h = λ held o. absurd (in_again (nth held (between id opens)) o)
      stmt_known varies opens ids i m (T.choice k at bs) g sound h = λ held o.
          let inner : are_branches rows ids bs ≡ true = (and_parts (has_branch bs) (are_branches rows ids bs) (and_parts (is_end rows false at) (has_branch bs && are_branches rows ids bs) (and_parts (nat_lt k rows.kernels) _ sound).1).1).1 in
          elim (in_parts (takes_part_among held r (flat_branches roles n opens i bs)) (firsts_among held r (flat_branches roles n opens i bs)) (firsts held r g)
          (in_compute (rank_of roles n at i == r) (cond (takes_part_among held r (flat_branches roles n opens i bs)) (or_then (firsts_among held r (flat_branches roles n opens i bs)) (firsts held r g)) (firsts held r g)) o)) [
            | inl y ↦ among_known opens ids i bs inner held y
            | inr y ↦ h held y
          ]
      stmt_known varies opens ids i m (run k at) g sound h = λ held o. h held (in_compute (rank_of roles n at i == r) (firsts held r g) o)
      stmt_known varies opens ids i m barrier g sound h = λ held o. absurd (false≢true o)
      stmt_known varies opens ids i m (broadcast k root) g sound h = λ held o. absurd (false≢true o)
      stmt_known varies opens ids i m (reduce k op root) g sound h = λ held o. absurd (false≢true o)
      stmt_known varies opens ids i m (allreduce k op) g sound h = λ held o. absurd (false≢true o)

      block_known : (varies : Bool) (opens ids : List ℕ) (i : ℤ) (b : BlockTree) (g : Block) → is_block rows varies ids b ≡ true → IsKnown g → IsKnown (flat_block roles n opens i b g)
      block_known varies opens ids i nothing g sound h = h
      block_known varies opens ids i (more m z b) g sound h =
          let parts = and_parts (is_stmt rows varies ids z) (is_block rows varies ids b) (and_parts _ (is_stmt rows varies ids z && is_block rows varies ids b) sound).1 in
          stmt_known varies opens ids i m z (flat_block roles n opens i b g) parts.0 (block_known varies opens ids i b g parts.1 h)

      among_known : (opens ids : List ℕ) (i : ℤ) (bs : BranchTrees) → are_branches rows ids bs ≡ true → (held : List Bool) → has_it (firsts_among held r (flat_branches roles n opens i bs)) → l < rows.labels
      among_known opens ids i T.no_branch sound = λ held o. absurd (false≢true o)
      among_known opens ids i (T.branch m b bs) sound = λ held o.
          let parts = and_parts (is_block rows false ids b) (are_branches rows ids bs) sound in
          elim (or_cases (is_outcome (receives s l) (firsts held r (flat_block roles n opens i b stop))) (is_outcome (receives s l) (firsts_among held r (flat_branches roles n opens i bs)))
          (sym (is_append (firsts held r (flat_block roles n opens i b stop)) (firsts_among held r (flat_branches roles n opens i bs)) (receives s l)) ∙ o)) [
            | inl y ↦ block_known false opens ids i b stop parts.0 none_known held y
            | inr y ↦ among_known opens ids i bs parts.1 held y
          ]

    pub label_known : (k : ℕ) (opens : List ℕ) (bs : BranchTrees) → are_branches rows opens bs ≡ true → (held : List Bool) → has_it (firsts held r (branch_at k (flat_branches roles n opens (pos 0) bs))) → l < rows.labels
    label_known k opens T.no_branch sound held o = absurd (false≢true o)
    label_known zero opens (T.branch m b bs) sound held o = block_known false opens opens (pos 0) b stop (and_parts (is_block rows false opens b) (are_branches rows opens bs) sound).0 none_known held o
    label_known (suc k) opens (T.branch m b bs) sound held o = label_known k opens bs (and_parts (is_block rows false opens b) (are_branches rows opens bs) sound).1 held o
