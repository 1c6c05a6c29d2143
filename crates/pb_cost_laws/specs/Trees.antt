-- How much a block of the core sends at least, or at most, at one N, where it has no loop.
--
-- n is N, and i and j are values of the variable.
use Rattle.std.specs.Prelude.{ℕ, ◌+◌, ℤ, Bool, true, false, ◌&&◌, List, [], ◌∷◌}
use Rattle.pb_affine.specs.Values.{value, range}
use Rattle.pb_core_language.specs.Sound.{has_branch}
use Rattle.pb_core_language.specs.Tree.{StmtTree, message, foreach, loop, again, choice, run, barrier, broadcast, reduce, allreduce, BlockTree, nothing, more, BranchTrees, no_branch, branch}
use Rattle.pb_cost_laws.specs.Sent.{Counted, Way, picked}
use Rattle.pb_cost_laws.specs.Flats.{of_label}

-- the sum over these values of the variable
abbrev pub sum_over : (ℤ → ℕ) → List ℤ → ℕ
sum_over of_value [] = 0
sum_over of_value (i ∷ others) = of_value i + sum_over of_value others

module _ (way : Way) (what : Counted) (size : ℕ → ℕ) (n : ℤ) where
  abbrev mutual
    pub of_stmt : ℤ → StmtTree → ℕ
    of_stmt i (message label from to) = of_label what size label
    of_stmt i (foreach bounds mark items) = sum_over (λ j. of_block j items) (range (value bounds.low n i) (value bounds.high n i))
    of_stmt i (loop id mark body) = of_block i body
    of_stmt i (again id) = 0
    of_stmt i (choice kernel at branches) = of_branches i branches
    of_stmt i (run kernel at) = 0
    of_stmt i barrier = 0
    of_stmt i (broadcast label root) = 0
    of_stmt i (reduce label op root) = 0
    of_stmt i (allreduce label op) = 0

    pub of_block : ℤ → BlockTree → ℕ
    of_block i nothing = 0
    of_block i (more mark first rest) = of_stmt i first + of_block i rest

    pub of_branches : ℤ → BranchTrees → ℕ
    of_branches i no_branch = 0
    of_branches i (branch mark first rest) = behind i (of_block i first) rest

    -- of a number and of these branches
    pub behind : ℤ → ℕ → BranchTrees → ℕ
    behind i best no_branch = best
    behind i best (branch mark first rest) = behind i (picked way best (of_block i first)) rest

-- it has no loop and no continue, and each choice in it has a branch
abbrev mutual
  pub is_straight_stmt : StmtTree → Bool
  is_straight_stmt (message label from to) = true
  is_straight_stmt (foreach bounds mark items) = is_straight items
  is_straight_stmt (loop id mark body) = false
  is_straight_stmt (again id) = false
  is_straight_stmt (choice kernel at branches) = has_branch branches && are_straight branches
  is_straight_stmt (run kernel at) = true
  is_straight_stmt barrier = true
  is_straight_stmt (broadcast label root) = true
  is_straight_stmt (reduce label op root) = true
  is_straight_stmt (allreduce label op) = true

  pub is_straight : BlockTree → Bool
  is_straight nothing = true
  is_straight (more mark first rest) = is_straight_stmt first && is_straight rest

  pub are_straight : BranchTrees → Bool
  are_straight no_branch = true
  are_straight (branch mark first rest) = is_straight first && are_straight rest
