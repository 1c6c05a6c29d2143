-- The ends of the sites of a sound protocol are of its roles.
use Rattle.std.proofs.Common.{◌≡◌, ℕ, zero, suc, ◌<◌, Bool, true, false, if◌then◌else◌, nat_lt, inl, inr, Option, Some, IsSome, List, [], ◌∷◌, ◌++◌, length, refl, sym, subst, arith}
use Rattle.std.specs.List.{slice_get}
use Rattle.std.proofs.lemmas.Bool.{and_parts, cases_Bool, ltb-true}
use Rattle.pb_core_language.specs.declared.protocol.CoreRole.{CoreRole}
use Rattle.pb_core_language.specs.declared.tree.CoreEnd.{CoreEnd}
use Rattle.pb_core_language.specs.Tree.{Mark, StmtTree, message, foreach, loop, again, choice, run, barrier, broadcast, reduce, allreduce, BlockTree, nothing, more, BranchTrees, no_branch, branch, is_again}
use Rattle.pb_core_language.specs.declared.tree.Bounds.{Bounds}
use Rattle.pb_core_language.specs.Sound.{Rows, is_end, is_stmt, is_block, are_branches}
use Rattle.pb_rules.specs.Sites.{Site, one, two, stmt_sites, block_sites, branches_sites}
use Rattle.pb_rules.proofs.Places.{sites_more}

some_within : (roles : List CoreRole) (k : ℕ) → k < length roles → IsSome (slice_get roles k)
some_within [] k h = absurd (omega arith)
some_within (r ∷ rs) zero h = refl
some_within (r ∷ rs) (suc k) h = some_within rs k (omega arith)

module _ (roles : List CoreRole) where
  abbrev pub IsGood : Site → Type 0
  IsGood (one over m e) = IsSome (slice_get roles e.role)
  IsGood (two over m f t) = IsSome (slice_get roles f.role) × IsSome (slice_get roles t.role)

  abbrev pub AllGood : List Site → Type 0
  AllGood [] = Unit {0}
  AllGood (s ∷ ss) = IsGood s × AllGood ss

  good_append : (ss ts : List Site) → AllGood ss → AllGood ts → AllGood (ss ++ ts)
  good_append [] ts h k = k
  good_append (s ∷ ss) ts h k = (h.0, good_append ss ts h.1 k)

  module _ (rows : Rows) (same : rows.roles ≡ length roles) where
    good_end : (varies : Bool) (e : CoreEnd) → is_end rows varies e ≡ true → IsSome (slice_get roles e.role)
    good_end varies e h = some_within roles e.role (subst (λ k. e.role < k) same (ltb-true e.role rows.roles (and_parts (nat_lt e.role rows.roles) _ h).0))

    mutual
      good_stmt : (varies : Bool) (opens : List ℕ) (over : Option Bounds) (m : Mark) (s : StmtTree) → is_stmt rows varies opens s ≡ true → AllGood (stmt_sites over m s)
      good_stmt varies opens over m (message l f t) h =
          let es = and_parts (is_end rows varies f) (is_end rows varies t) (and_parts _ _ h).1 in
          ((good_end varies f es.0, good_end varies t es.1), tt)
      good_stmt varies opens over m (foreach b k items) h = good_block true opens (Some b) items (and_parts _ _ (and_parts _ _ h).1).1
      good_stmt varies opens over m (loop id k body) h = good_block false (id ∷ opens) over body (and_parts _ _ h).1
      good_stmt varies opens over m (again id) h = tt
      good_stmt varies opens over m (choice k at bs) h =
          let es = and_parts (is_end rows false at) _ (and_parts _ _ h).1 in
          (good_end false at es.0, good_branches opens over bs (and_parts _ _ es.1).1)
      good_stmt varies opens over m (run k at) h = (good_end varies at (and_parts _ _ h).1, tt)
      good_stmt varies opens over m barrier h = tt
      good_stmt varies opens over m (broadcast l root) h = (good_end false root (and_parts _ _ h).1, tt)
      good_stmt varies opens over m (reduce l op root) h = (good_end false root (and_parts _ _ h).1, tt)
      good_stmt varies opens over m (allreduce l op) h = tt

      pub good_block : (varies : Bool) (opens : List ℕ) (over : Option Bounds) (b : BlockTree) → is_block rows varies opens b ≡ true → AllGood (block_sites over b)
      good_block varies opens over nothing h = tt
      good_block varies opens over (more m s b) h =
          let parts = and_parts (is_stmt rows varies opens s) (is_block rows varies opens b) (and_parts _ _ h).1 in
          elim (cases_Bool (is_again s)) [
            | inl yes_again ↦ subst (λ u. AllGood (if u then [] else (stmt_sites over m s ++ block_sites over b))) (sym yes_again) tt
            | inr not_again ↦ subst (λ l. AllGood l) (sym (sites_more over m s b not_again))
                (good_append (stmt_sites over m s) (block_sites over b) (good_stmt varies opens over m s parts.0) (good_block varies opens over b parts.1))
          ]

      good_branches : (opens : List ℕ) (over : Option Bounds) (bs : BranchTrees) → are_branches rows opens bs ≡ true → AllGood (branches_sites over bs)
      good_branches opens over no_branch h = tt
      good_branches opens over (branch m b bs) h =
          let parts = and_parts (is_block rows false opens b) (are_branches rows opens bs) h in
          good_append (block_sites over b) (branches_sites over bs) (good_block false opens over b parts.0) (good_branches opens over bs parts.1)
