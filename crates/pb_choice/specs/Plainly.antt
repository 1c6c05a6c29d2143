-- Statements at which none of the rules 9 to 12 is broken.
use Rattle.std.specs.Prelude.{Bool, true, false}
use Rattle.pb_core_language.specs.Tree.{StmtTree, message, foreach, loop, again, choice, run, barrier, broadcast, reduce, allreduce}

-- neither a loop nor a choice
abbrev pub is_plain : StmtTree → Bool
is_plain (message l f t) = true
is_plain (foreach b k items) = true
is_plain (loop id k body) = false
is_plain (again id) = true
is_plain (choice k at bs) = false
is_plain (run k at) = true
is_plain barrier = true
is_plain (broadcast l root) = true
is_plain (reduce l op root) = true
is_plain (allreduce l op) = true
