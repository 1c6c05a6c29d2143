-- A core that keeps the rule on what can end has flat protocols that keep it.
use Rattle.std.proofs.Common.{◌≡◌, ℕ, ℤ, pos, Bool, true, ◌&&◌, ◌||◌, ◌⊎◌, List, [], ◌∷◌, refl, ap, ap₂, ◌∙◌, inl, inr, sym}
use Rattle.std.proofs.lemmas.Bool.{or_cases, or_right, or_left, and_from, and_parts}
use Rattle.std.proofs.Math.Bool.{and-true, and_assoc}
use Rattle.pb_affine.specs.Values.{value, range}
use Rattle.pb_core_language.specs.declared.protocol.CoreRole.{CoreRole}
use Rattle.pb_core_language.specs.Tree.{Mark, StmtTree, message, foreach, loop, again, choice, run, barrier, broadcast, reduce, allreduce, BlockTree, nothing, more, BranchTrees, no_branch, branch}
use Rattle.pb_core_language.specs.Flat as F
use Rattle.pb_core_language.specs.FlatOf.{for_each, flat_stmt, flat_block, flat_branches, flat}
use Rattle.pb_core_endpoint.specs.Rules.{is_stop, loops_end, loops_end_each, ends_before, ends_before_each}
use Rattle.pb_core_endpoint.specs.Core.{is_simple, are_simple, has_simple_items, have_simple_items, branches_have_simple_items, can_end, all_can_end, some_can_end, is_nothing, loops_end_in, all_loops_end, branches_loops_end, keeps_ends, all_keep_ends, branches_keep_ends}

module _ (roles : List CoreRole) (n : ℤ) where
  -- what simple items stand before decides
  simple_all : (P : F.Block → Bool) → ((a : F.Origin) (p q l : ℕ) (g : F.Block) → P (F.message a p q l g) ≡ P g) → ((a : F.Origin) (p k : ℕ) (g : F.Block) → P (F.compute a p k g) ≡ P g) → (opens : List ℕ) (i : ℤ) (b : BlockTree) (rest : F.Block) → are_simple b ≡ true → P (flat_block roles n opens i b rest) ≡ P rest
  simple_all P m c opens i nothing rest h = refl
  simple_all P m c opens i (more x s b) rest h =
      let hs = and_parts (is_simple s) (are_simple b) h in
      one s hs.0 ∙ simple_all P m c opens i b rest hs.1
    where
      one : (s : StmtTree) → is_simple s ≡ true → P (flat_stmt roles n opens i x s (flat_block roles n opens i b rest)) ≡ P (flat_block roles n opens i b rest)
      one (message l f t) e = m _ _ _ l _
      one (run k at) e = c _ _ k _
      one (foreach x y items) e = cc
      one (loop id y body) e = cc
      one (again id) e = cc
      one (choice k at bs) e = cc
      one barrier e = cc
      one (broadcast l root) e = cc
      one (reduce l op root) e = cc
      one (allreduce l op) e = cc

  simple_each : (P : F.Block → Bool) → ((a : F.Origin) (p q l : ℕ) (g : F.Block) → P (F.message a p q l g) ≡ P g) → ((a : F.Origin) (p k : ℕ) (g : F.Block) → P (F.compute a p k g) ≡ P g) → (opens : List ℕ) (xs : List ℤ) (b : BlockTree) (rest : F.Block) → are_simple b ≡ true → P (for_each xs (λ x. flat_block roles n opens x b) rest) ≡ P rest
  simple_each P m c opens [] b rest h = refl
  simple_each P m c opens (x ∷ xs) b rest h = simple_all P m c opens x b (for_each xs (λ x. flat_block roles n opens x b) rest) h ∙ simple_each P m c opens xs b rest h

  mutual
    end_stmt : (opens : List ℕ) (i : ℤ) (u : Mark) (s : StmtTree) (rest : F.Block) → has_simple_items s ≡ true → F.can_end (flat_stmt roles n opens i u s rest) ≡ (can_end s && F.can_end rest)
    end_stmt opens i u (message l f t) rest h = refl
    end_stmt opens i u (foreach x m items) rest h = simple_each F.can_end (λ a p q l g. refl) (λ a p k g. refl) opens (range (value x.low n i) (value x.high n i)) items rest h
    end_stmt opens i u (loop id m body) rest h = ap (λ u. u && F.can_end rest) (end_block (id ∷ opens) i body F.stop h ∙ and-true (all_can_end body))
    end_stmt opens i u (again id) rest h = refl
    end_stmt opens i u (choice k at bs) rest h = ap (λ u. u && F.can_end rest) (end_branches opens i bs h)
    end_stmt opens i u (run k at) rest h = refl
    end_stmt opens i u barrier rest h = refl
    end_stmt opens i u (broadcast l root) rest h = refl
    end_stmt opens i u (reduce l op root) rest h = refl
    end_stmt opens i u (allreduce l op) rest h = refl

    end_block : (opens : List ℕ) (i : ℤ) (b : BlockTree) (rest : F.Block) → have_simple_items b ≡ true → F.can_end (flat_block roles n opens i b rest) ≡ (all_can_end b && F.can_end rest)
    end_block opens i nothing rest h = refl
    end_block opens i (more m s b) rest h =
        let hs = and_parts (has_simple_items s) (have_simple_items b) h in
        end_stmt opens i m s (flat_block roles n opens i b rest) hs.0 ∙ ap (λ u. can_end s && u) (end_block opens i b rest hs.1) ∙ sym (and_assoc (can_end s) (all_can_end b) (F.can_end rest))

    end_branches : (opens : List ℕ) (i : ℤ) (bs : BranchTrees) → branches_have_simple_items bs ≡ true → F.some_can_end (flat_branches roles n opens i bs) ≡ some_can_end bs
    end_branches opens i no_branch h = refl
    end_branches opens i (branch m b bs) h =
        let hs = and_parts (have_simple_items b) (branches_have_simple_items bs) h in
        ap₂ (λ u v. u || v) (end_block opens i b F.stop hs.0 ∙ and-true (all_can_end b)) (end_branches opens i bs hs.1)

  mutual
    loops_stmt : (opens : List ℕ) (i : ℤ) (u : Mark) (s : StmtTree) (rest : F.Block) → has_simple_items s ≡ true → loops_end_in s ≡ true → loops_end rest ≡ true → loops_end (flat_stmt roles n opens i u s rest) ≡ true
    loops_stmt opens i u (message l f t) rest h e r = r
    loops_stmt opens i u (foreach x m items) rest h e r = simple_each loops_end (λ a p q l g. refl) (λ a p k g. refl) opens (range (value x.low n i) (value x.high n i)) items rest h ∙ r
    loops_stmt opens i u (loop id m body) rest h e r =
        let es = and_parts (all_can_end body) (all_loops_end body) e in
        and_from _ _ (end_block (id ∷ opens) i body F.stop h ∙ and-true (all_can_end body) ∙ es.0) (and_from _ _ (loops_block (id ∷ opens) i body F.stop h es.1 refl) r)
    loops_stmt opens i u (again id) rest h e r = refl
    loops_stmt opens i u (choice k at bs) rest h e r = and_from _ _ (loops_branches opens i bs h e) r
    loops_stmt opens i u (run k at) rest h e r = r
    loops_stmt opens i u barrier rest h e r = r
    loops_stmt opens i u (broadcast l root) rest h e r = r
    loops_stmt opens i u (reduce l op root) rest h e r = r
    loops_stmt opens i u (allreduce l op) rest h e r = r

    loops_block : (opens : List ℕ) (i : ℤ) (b : BlockTree) (rest : F.Block) → have_simple_items b ≡ true → all_loops_end b ≡ true → loops_end rest ≡ true → loops_end (flat_block roles n opens i b rest) ≡ true
    loops_block opens i nothing rest h e r = r
    loops_block opens i (more m s b) rest h e r =
        let hs = and_parts (has_simple_items s) (have_simple_items b) h in
        let es = and_parts (loops_end_in s) (all_loops_end b) e in
        loops_stmt opens i m s (flat_block roles n opens i b rest) hs.0 es.0 (loops_block opens i b rest hs.1 es.1 r)

    loops_branches : (opens : List ℕ) (i : ℤ) (bs : BranchTrees) → branches_have_simple_items bs ≡ true → branches_loops_end bs ≡ true → loops_end_each (flat_branches roles n opens i bs) ≡ true
    loops_branches opens i no_branch h e = refl
    loops_branches opens i (branch m b bs) h e =
        let hs = and_parts (have_simple_items b) (branches_have_simple_items bs) h in
        let es = and_parts (all_loops_end b) (branches_loops_end bs) e in
        and_from _ _ (loops_block opens i b F.stop hs.0 es.0 refl) (loops_branches opens i bs hs.1 es.1)

  mutual
    keep_stmt : (opens : List ℕ) (i : ℤ) (u : Mark) (s : StmtTree) (rest : F.Block) → has_simple_items s ≡ true → keeps_ends s ≡ true → (is_stop rest ≡ true) ⊎ ((can_end s && loops_end_in s) ≡ true) → ends_before rest ≡ true → ends_before (flat_stmt roles n opens i u s rest) ≡ true
    keep_stmt opens i u (message l f t) rest h k o r = r
    keep_stmt opens i u (foreach x m items) rest h k o r = simple_each ends_before (λ a p q l g. refl) (λ a p k g. refl) opens (range (value x.low n i) (value x.high n i)) items rest h ∙ r
    keep_stmt opens i u (loop id m body) rest h k o r =
        let fb = flat_block roles n (id ∷ opens) i body F.stop in
        let last : (is_stop rest || (F.can_end fb && loops_end fb)) ≡ true =
        elim o [
          | inl y ↦ or_left (is_stop rest) (F.can_end fb && loops_end fb) y
          | inr y ↦
              let es = and_parts (all_can_end body) (all_can_end body && all_loops_end body) y in
              let fs = and_parts (all_can_end body) (all_loops_end body) es.1 in
              or_right (is_stop rest) (F.can_end fb && loops_end fb) (and_from (F.can_end fb) (loops_end fb) (end_block (id ∷ opens) i body F.stop h ∙ and-true (all_can_end body) ∙ es.0) (loops_block (id ∷ opens) i body F.stop h fs.1 refl))
        ] in
        and_from _ _ last (and_from _ _ (keep_block (id ∷ opens) i body h k) r)
    keep_stmt opens i u (again id) rest h k o r = refl
    keep_stmt opens i u (choice j at bs) rest h k o r =
        let fs = flat_branches roles n opens i bs in
        let last : (is_stop rest || (F.some_can_end fs && loops_end_each fs)) ≡ true =
        elim o [
          | inl y ↦ or_left (is_stop rest) (F.some_can_end fs && loops_end_each fs) y
          | inr y ↦
              let es = and_parts (some_can_end bs) (branches_loops_end bs) y in
              or_right (is_stop rest) (F.some_can_end fs && loops_end_each fs) (and_from (F.some_can_end fs) (loops_end_each fs) (end_branches opens i bs h ∙ es.0) (loops_branches opens i bs h es.1))
        ] in
        and_from _ _ last (and_from _ _ (keep_branches opens i bs h k) r)
    keep_stmt opens i u (run j at) rest h k o r = r
    keep_stmt opens i u barrier rest h k o r = r
    keep_stmt opens i u (broadcast l root) rest h k o r = r
    keep_stmt opens i u (reduce l op root) rest h k o r = r
    keep_stmt opens i u (allreduce l op) rest h k o r = r

    keep_block : (opens : List ℕ) (i : ℤ) (b : BlockTree) → have_simple_items b ≡ true → all_keep_ends b ≡ true → ends_before (flat_block roles n opens i b F.stop) ≡ true
    keep_block opens i nothing h k = refl
    keep_block opens i (more m s b) h k =
        let hs = and_parts (has_simple_items s) (have_simple_items b) h in
        let ks = and_parts (is_nothing b || (can_end s && loops_end_in s)) _ k in
        let kb = and_parts (keeps_ends s) (all_keep_ends b) ks.1 in
        keep_stmt opens i m s (flat_block roles n opens i b F.stop) hs.0 kb.0 (elim (or_cases (is_nothing b) _ ks.0) [ inl y ↦ inl (last b y) | inr y ↦ inr y ]) (keep_block opens i b hs.1 kb.1)
      where
        last : (b : BlockTree) → is_nothing b ≡ true → is_stop (flat_block roles n opens i b F.stop) ≡ true
        last nothing e = refl
        last (more x y z) e = cc

    keep_branches : (opens : List ℕ) (i : ℤ) (bs : BranchTrees) → branches_have_simple_items bs ≡ true → branches_keep_ends bs ≡ true → ends_before_each (flat_branches roles n opens i bs) ≡ true
    keep_branches opens i no_branch h k = refl
    keep_branches opens i (branch m b bs) h k =
        let hs = and_parts (have_simple_items b) (branches_have_simple_items bs) h in
        let ks = and_parts (all_keep_ends b) (branches_keep_ends bs) k in
        and_from _ _ (keep_block opens i b hs.0 ks.0) (keep_branches opens i bs hs.1 ks.1)

pub ends_down : (roles : List CoreRole) (n : ℤ) (body : BlockTree) → have_simple_items body ≡ true → all_keep_ends body ≡ true → ends_before (flat roles n body) ≡ true
ends_down roles n body h k = keep_block roles n [] (pos 0) body h k
