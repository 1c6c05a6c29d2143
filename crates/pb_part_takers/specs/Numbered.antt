-- Where a number stands in a tree, a foreach's items aside.
use Rattle.std.specs.Prelude.{ℕ, nat_eq, Bool, false, ◌||◌}
use Rattle.pb_core_language.specs.Tree.{StmtTree, message, foreach, loop, again, choice, run, barrier, broadcast, reduce, allreduce, BlockTree, nothing, more, BranchTrees, no_branch, branch}

abbrev mutual
  pub is_below : ℕ → StmtTree → Bool
  is_below k (message l f t) = false
  is_below k (foreach h m items) = false
  is_below k (loop id m body) = is_within k body
  is_below k (again id) = false
  is_below k (choice kernel at bs) = is_across k bs
  is_below k (run kernel at) = false
  is_below k barrier = false
  is_below k (broadcast l root) = false
  is_below k (reduce l op root) = false
  is_below k (allreduce l op) = false

  pub is_within : ℕ → BlockTree → Bool
  is_within k nothing = false
  is_within k (more m s rest) = (nat_eq k m.number || is_below k s) || is_within k rest

  pub is_across : ℕ → BranchTrees → Bool
  is_across k no_branch = false
  is_across k (branch m b bs) = is_within k b || is_across k bs
