-- The flat protocol of a block sends what the block's statements tell.
use Rattle.std.proofs.Common.{◌≡◌, ℕ, ◌+◌, ◌≤◌, ℤ, pos, true, false, List, [], ◌∷◌, refl, ap, ◌∙◌, subst, arith}
use Rattle.std.proofs.lemmas.Bool.{and_parts}
use Rattle.pb_affine.specs.Values.{value, range}
use Rattle.pb_core_language.specs.declared.protocol.CoreRole.{CoreRole}
use Rattle.pb_core_language.specs.Sound.{has_branch}
use Rattle.pb_core_language.specs.Tree as T
use Rattle.pb_core_language.specs.Tree.{Mark, StmtTree, foreach, loop, run, barrier, broadcast, reduce, allreduce, BlockTree, nothing, more, BranchTrees}
use Rattle.pb_core_language.specs.Flat.{Block, stop, count}
use Rattle.pb_core_language.specs.FlatOf.{for_each, flat_stmt, flat_block, flat_branches}
use Rattle.pb_cost_laws.specs.Sent.{Counted, Sends, Way, picked, IsExtreme}
use Rattle.pb_cost_laws.specs.Flats.{extreme, extreme_among, extreme_behind, IsStraight, AreStraight}
use Rattle.pb_cost_laws.specs.Trees.{sum_over, of_stmt, of_block, of_branches, behind, is_straight_stmt, is_straight, are_straight}
use Rattle.pb_cost_laws.specs.Laws.{BlockSends}
use Rattle.pb_cost_laws.proofs.Straight.{straight}

sum_assoc : (a b c d e : ℕ) → d ≡ a + e → e ≡ b + c → d ≡ a + b + c
sum_assoc a b c d e h g = omega (arith, h, g)

no_more : (a : ℕ) → a + 0 ≡ a
no_more a = omega arith

none_before : (a : ℕ) → a ≡ 0 + a
none_before a = omega arith

module _ (way : Way) (what : Counted) (size : ℕ → ℕ) (roles : List CoreRole) (n : ℤ) where
  each_value : (of_value : ℤ → ℕ) (items : ℤ → Block → Block) → ((j : ℤ) (after : Block) → extreme way what size (items j after) ≡ of_value j + extreme way what size after) → (values : List ℤ) (after : Block) →
      extreme way what size (for_each values items after) ≡ sum_over of_value values + extreme way what size after
  each_value of_value items is [] after = none_before (extreme way what size after)
  each_value of_value items is (j ∷ others) after =
      sum_assoc (of_value j) (sum_over of_value others) (extreme way what size after) _ _ (is j (for_each others items after)) (each_value of_value items is others after)

  mutual
    stmt_sends : (opens : List ℕ) (i : ℤ) (own : Mark) (s : StmtTree) (after : Block) → is_straight_stmt s ≡ true → extreme way what size (flat_stmt roles n opens i own s after) ≡ of_stmt way what size n i s + extreme way what size after
    stmt_sends opens i own (T.message label from to) after h = refl
    stmt_sends opens i own (foreach bounds mark items) after h =
        each_value (λ j. of_block way what size n j items) (λ j. flat_block roles n opens j items) (λ j later. block_sends opens j items later h) (range (value bounds.low n i) (value bounds.high n i)) after
    stmt_sends opens i own (loop id mark body) after h = absurd (let e : false ≡ true = h in cc)
    stmt_sends opens i own (T.again id) after h = absurd (let e : false ≡ true = h in cc)
    stmt_sends opens i own (T.choice kernel at branches) after h = ap (λ x. x + extreme way what size after) (branches_send opens i branches (and_parts (has_branch branches) (are_straight branches) h).1)
    stmt_sends opens i own (run kernel at) after h = none_before (extreme way what size after)
    stmt_sends opens i own barrier after h = none_before (extreme way what size after)
    stmt_sends opens i own (broadcast label root) after h = none_before (extreme way what size after)
    stmt_sends opens i own (reduce label op root) after h = none_before (extreme way what size after)
    stmt_sends opens i own (allreduce label op) after h = none_before (extreme way what size after)

    pub block_sends : (opens : List ℕ) (i : ℤ) (block : BlockTree) (after : Block) → is_straight block ≡ true → extreme way what size (flat_block roles n opens i block after) ≡ of_block way what size n i block + extreme way what size after
    block_sends opens i nothing after h = none_before (extreme way what size after)
    block_sends opens i (more mark first rest) after h =
        sum_assoc (of_stmt way what size n i first) (of_block way what size n i rest) (extreme way what size after) _ _
        (stmt_sends opens i mark first (flat_block roles n opens i rest after) (and_parts (is_straight_stmt first) (is_straight rest) h).0)
        (block_sends opens i rest after (and_parts (is_straight_stmt first) (is_straight rest) h).1)

    branches_send : (opens : List ℕ) (i : ℤ) (bs : BranchTrees) → are_straight bs ≡ true → extreme_among way what size (flat_branches roles n opens i bs) ≡ of_branches way what size n i bs
    branches_send opens i T.no_branch h = refl
    branches_send opens i (T.branch mark first rest) h =
        ap (λ x. extreme_behind way what size x (flat_branches roles n opens i rest)) (alone_sends opens i first (and_parts (is_straight first) (are_straight rest) h).0)
        ∙ behind_sends opens i (of_block way what size n i first) rest (and_parts (is_straight first) (are_straight rest) h).1

    behind_sends : (opens : List ℕ) (i : ℤ) (best : ℕ) (bs : BranchTrees) → are_straight bs ≡ true → extreme_behind way what size best (flat_branches roles n opens i bs) ≡ behind way what size n i best bs
    behind_sends opens i best T.no_branch h = refl
    behind_sends opens i best (T.branch mark first rest) h =
        ap (λ x. extreme_behind way what size (picked way best x) (flat_branches roles n opens i rest)) (alone_sends opens i first (and_parts (is_straight first) (are_straight rest) h).0)
        ∙ behind_sends opens i (picked way best (of_block way what size n i first)) rest (and_parts (is_straight first) (are_straight rest) h).1

    alone_sends : (opens : List ℕ) (i : ℤ) (block : BlockTree) → is_straight block ≡ true → extreme way what size (flat_block roles n opens i block stop) ≡ of_block way what size n i block
    alone_sends opens i nothing h = refl
    alone_sends opens i (more mark first rest) h =
        sum_assoc (of_stmt way what size n i first) (of_block way what size n i rest) 0 _ _
        (stmt_sends opens i mark first (flat_block roles n opens i rest stop) (and_parts (is_straight_stmt first) (is_straight rest) h).0)
        (block_sends opens i rest stop (and_parts (is_straight_stmt first) (is_straight rest) h).1)
        ∙ no_more (of_stmt way what size n i first + of_block way what size n i rest)

module _ (roles : List CoreRole) (n : ℤ) where
  some_branch : (opens : List ℕ) (i : ℤ) (bs : BranchTrees) → has_branch bs ≡ true → 1 ≤ count (flat_branches roles n opens i bs)
  some_branch opens i T.no_branch h = absurd (let e : false ≡ true = h in cc)
  some_branch opens i (T.branch mark first rest) h = omega arith

  each_straight : (items : ℤ → Block → Block) → ((j : ℤ) (after : Block) → IsStraight after → IsStraight (items j after)) → (values : List ℤ) (after : Block) → IsStraight after → IsStraight (for_each values items after)
  each_straight items is [] after h = h
  each_straight items is (j ∷ others) after h = is j (for_each others items after) (each_straight items is others after h)

  mutual
    stmt_straight : (opens : List ℕ) (i : ℤ) (own : Mark) (s : StmtTree) (after : Block) → is_straight_stmt s ≡ true → IsStraight after → IsStraight (flat_stmt roles n opens i own s after)
    stmt_straight opens i own (T.message label from to) after h g = g
    stmt_straight opens i own (foreach bounds mark items) after h g = each_straight (λ j. flat_block roles n opens j items) (λ j later k. block_straight opens j items later h k) (range (value bounds.low n i) (value bounds.high n i)) after g
    stmt_straight opens i own (loop id mark body) after h g = absurd (let e : false ≡ true = h in cc)
    stmt_straight opens i own (T.again id) after h g = absurd (let e : false ≡ true = h in cc)
    stmt_straight opens i own (T.choice kernel at branches) after h g =
        (some_branch opens i branches (and_parts (has_branch branches) (are_straight branches) h).0, (branches_straight opens i branches (and_parts (has_branch branches) (are_straight branches) h).1, g))
    stmt_straight opens i own (run kernel at) after h g = g
    stmt_straight opens i own barrier after h g = g
    stmt_straight opens i own (broadcast label root) after h g = g
    stmt_straight opens i own (reduce label op root) after h g = g
    stmt_straight opens i own (allreduce label op) after h g = g

    pub block_straight : (opens : List ℕ) (i : ℤ) (block : BlockTree) (after : Block) → is_straight block ≡ true → IsStraight after → IsStraight (flat_block roles n opens i block after)
    block_straight opens i nothing after h g = g
    block_straight opens i (more mark first rest) after h g =
        stmt_straight opens i mark first (flat_block roles n opens i rest after) (and_parts (is_straight_stmt first) (is_straight rest) h).0
        (block_straight opens i rest after (and_parts (is_straight_stmt first) (is_straight rest) h).1 g)

    branches_straight : (opens : List ℕ) (i : ℤ) (bs : BranchTrees) → are_straight bs ≡ true → AreStraight (flat_branches roles n opens i bs)
    branches_straight opens i T.no_branch h = tt
    branches_straight opens i (T.branch mark first rest) h =
        (block_straight opens i first stop (and_parts (is_straight first) (are_straight rest) h).0 tt, branches_straight opens i rest (and_parts (is_straight first) (are_straight rest) h).1)

pub block_law : BlockSends
block_law w way what roles n block h =
    subst (λ k. IsExtreme way (Sends w what (flat_block roles n [] (pos 0) block stop)) k) (alone_sends way what w.size roles n [] (pos 0) block h)
    (straight w way what (flat_block roles n [] (pos 0) block stop) (block_straight roles n [] (pos 0) block stop h tt))
