-- How many messages are written in a protocol, whatever is chosen.
use Rattle.std.specs.Prelude.{ℕ, ◌+◌}
use Rattle.pb_core_language.specs.Tree.{StmtTree, message, foreach, loop, again, choice, run, barrier, broadcast, reduce, allreduce, BlockTree, nothing, more, BranchTrees, no_branch, branch}

abbrev mutual
  pub messages_at : StmtTree → ℕ
  messages_at (message label from to) = 1
  messages_at (foreach bounds mark items) = messages_in items
  messages_at (loop id mark body) = messages_in body
  messages_at (again id) = 0
  messages_at (choice kernel at branches) = messages_among branches
  messages_at (run kernel at) = 0
  messages_at barrier = 0
  messages_at (broadcast label root) = 0
  messages_at (reduce label op root) = 0
  messages_at (allreduce label op) = 0

  pub messages_in : BlockTree → ℕ
  messages_in nothing = 0
  messages_in (more mark first rest) = messages_at first + messages_in rest

  pub messages_among : BranchTrees → ℕ
  messages_among no_branch = 0
  messages_among (branch mark first rest) = messages_in first + messages_among rest
