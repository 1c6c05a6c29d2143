-- Statements behind which others are done.
use Rattle.std.specs.Prelude.{ℕ, suc, ◌==◌, Bool, true, false, not, ◌||◌, ◌&&◌, List, ◌∷◌}
use Rattle.pb_core_language.specs.Tree.{is_again, StmtTree, message, foreach, loop, again, choice, run, barrier, broadcast, reduce, allreduce, BlockTree, nothing, more, BranchTrees, no_branch, branch}
use Rattle.pb_core_language.specs.FlatOf.{between}
use Rattle.pb_core_language.specs.Sound.{is_item}

-- it is no continue, nor a foreach with one among its items
abbrev mutual
  pub goes_on : StmtTree → Bool
  goes_on (message l f t) = true
  goes_on (foreach h m items) = go_on items
  goes_on (loop id m body) = true
  goes_on (again id) = false
  goes_on (choice k at bs) = true
  goes_on (run k at) = true
  goes_on barrier = true
  goes_on (broadcast l root) = true
  goes_on (reduce l op root) = true
  goes_on (allreduce l op) = true

  pub go_on : BlockTree → Bool
  go_on nothing = true
  go_on (more m s rest) = goes_on s && go_on rest

-- messages and computes alone
abbrev pub are_items : BlockTree → Bool
are_items nothing = true
are_items (more m s rest) = is_item s && are_items rest

-- It has a continue of the k-th loop around it, the innermost first, inside the loops with these ids. What is written behind
-- a continue isn't done.
abbrev mutual
  pub has_again : ℕ → List ℕ → StmtTree → Bool
  has_again k opens (message l f t) = false
  has_again k opens (foreach h m items) = false
  has_again k opens (loop id m body) = have_again (suc k) (id ∷ opens) body
  has_again k opens (again id) = between id opens == k
  has_again k opens (choice kernel at bs) = some_have_again k opens bs
  has_again k opens (run kernel at) = false
  has_again k opens barrier = false
  has_again k opens (broadcast l root) = false
  has_again k opens (reduce l op root) = false
  has_again k opens (allreduce l op) = false

  pub have_again : ℕ → List ℕ → BlockTree → Bool
  have_again k opens nothing = false
  have_again k opens (more m s rest) = has_again k opens s || (not (is_again s) && have_again k opens rest)

  pub some_have_again : ℕ → List ℕ → BranchTrees → Bool
  some_have_again k opens no_branch = false
  some_have_again k opens (branch m b bs) = have_again k opens b || some_have_again k opens bs
