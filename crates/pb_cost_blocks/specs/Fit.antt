-- What every file within the limits has: a foreach has messages and computes alone, and its ends are small; and no more is
-- sent than so many messages of so many words.
use Rattle.std.specs.Prelude.{◌≡◌, ℕ, ◌+◌, ◌≤◌, Bool, true, ◌&&◌}
use Rattle.pb_core_language.specs.Sound.{is_bound, is_item}
use Rattle.pb_core_language.specs.Tree.{StmtTree, message, foreach, loop, again, choice, run, barrier, broadcast, reduce, allreduce, BlockTree, nothing, more, BranchTrees, no_branch, branch}
use Rattle.pb_cost_laws.specs.Sent.{Counted}
use Rattle.pb_cost_laws.specs.Flats.{of_label}

-- the sum over all messages that are written, whatever is chosen
module _ (what : Counted) (size : ℕ → ℕ) where
  abbrev mutual
    pub weight_of_stmt : StmtTree → ℕ
    weight_of_stmt (message label from to) = of_label what size label
    weight_of_stmt (foreach bounds mark items) = weight_of items
    weight_of_stmt (loop id mark body) = weight_of body
    weight_of_stmt (again id) = 0
    weight_of_stmt (choice kernel at branches) = weight_of_branches branches
    weight_of_stmt (run kernel at) = 0
    weight_of_stmt barrier = 0
    weight_of_stmt (broadcast label root) = 0
    weight_of_stmt (reduce label op root) = 0
    weight_of_stmt (allreduce label op) = 0

    pub weight_of : BlockTree → ℕ
    weight_of nothing = 0
    weight_of (more mark first rest) = weight_of_stmt first + weight_of rest

    pub weight_of_branches : BranchTrees → ℕ
    weight_of_branches no_branch = 0
    weight_of_branches (branch mark first rest) = weight_of first + weight_of_branches rest

abbrev pub are_items : BlockTree → Bool
are_items nothing = true
are_items (more mark first rest) = is_item first && are_items rest

-- each foreach is such a one
abbrev mutual
  pub is_fit_stmt : StmtTree → Bool
  is_fit_stmt (message label from to) = true
  is_fit_stmt (foreach bounds mark items) = is_bound bounds.low && (is_bound bounds.high && are_items items)
  is_fit_stmt (loop id mark body) = is_fit body
  is_fit_stmt (again id) = true
  is_fit_stmt (choice kernel at branches) = are_fit branches
  is_fit_stmt (run kernel at) = true
  is_fit_stmt barrier = true
  is_fit_stmt (broadcast label root) = true
  is_fit_stmt (reduce label op root) = true
  is_fit_stmt (allreduce label op) = true

  pub is_fit : BlockTree → Bool
  is_fit nothing = true
  is_fit (more mark first rest) = is_fit_stmt first && is_fit rest

  pub are_fit : BranchTrees → Bool
  are_fit no_branch = true
  are_fit (branch mark first rest) = is_fit first && are_fit rest

-- and the messages, or words, are at most as many as 4,000 statements can send once
pub record IsFit (what : Counted) (size : ℕ → ℕ) (block : BlockTree) : Type 0 where
  pub placed : is_fit block ≡ true
  pub light : weight_of what size block ≤ 4100000
