-- What keeps the numbers of a core within 64 bits, whatever rows it has: the ends of a foreach have no variable, and fewer
-- than 64 loops stand around a loop. A core that is sound has this.
use Rattle.std.specs.Prelude.{ℕ, suc, ◌-◌, ◌^◌, ℤ, pos, negsuc, ◌≤ℤ◌, Bool, true, ◌&&◌, nat_le, nat_lt}
use Rattle.pb_core_language.specs.Tree.{StmtTree, message, foreach, loop, again, choice, run, barrier, broadcast, reduce, allreduce, BlockTree, nothing, more, BranchTrees, no_branch, branch}
use Rattle.pb_core_language.specs.Sound.{is_over_n}

-- within 2 ^ 41 of zero, as the variable of a foreach is
pub record IsTurn (x : ℤ) : Type 0 where
  pub low : negsuc (2 ^ 41 - 1) ≤ℤ x
  pub high : x ≤ℤ pos (2 ^ 41)

-- a statement, a block and the branches of a choice, within so many loops
abbrev mutual
  pub is_small_stmt : ℕ → StmtTree → Bool
  is_small_stmt depth (message l f t) = true
  is_small_stmt depth (foreach h m items) = is_over_n h.low.base && (is_over_n h.high.base && is_small_block depth items)
  is_small_stmt depth (loop id m body) = nat_lt depth 64 && is_small_block (suc depth) body
  is_small_stmt depth (again id) = nat_le depth 64
  is_small_stmt depth (choice k at bs) = are_small_branches depth bs
  is_small_stmt depth (run k at) = true
  is_small_stmt depth barrier = true
  is_small_stmt depth (broadcast l root) = true
  is_small_stmt depth (reduce l op root) = true
  is_small_stmt depth (allreduce l op) = true

  pub is_small_block : ℕ → BlockTree → Bool
  is_small_block depth nothing = true
  is_small_block depth (more m s rest) = is_small_stmt depth s && is_small_block depth rest

  pub are_small_branches : ℕ → BranchTrees → Bool
  are_small_branches depth no_branch = true
  are_small_branches depth (branch m b bs) = is_small_block depth b && are_small_branches depth bs
