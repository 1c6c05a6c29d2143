-- How many statements the text of a protocol may have, and how many braces may be open in it.
use Rattle.std.specs.Prelude.{ℕ, suc, ◌+◌, max}
use Rattle.pb_core_language.specs.Tree as T
use Rattle.pb_core_language.specs.Tree.{StmtTree, BlockTree, BranchTrees}
use Rattle.pb_local.specs.Tree.{Code, when, for_each, own, loop, again, choice, send, recv, run, barrier, broadcast, reduce, allreduce, Codes, nothing, more, Parts, no_part, part}

-- how many braces are open at most inside the text of a statement
abbrev mutual
  pub braces : Code → ℕ
  braces (when guards first other) = suc (max (braces_all first) (braces_all other))
  braces (for_each low high body) = suc (braces_all body)
  braces (own off) = 0
  braces (loop id body) = suc (braces_all body)
  braces (again id) = 0
  -- around a test, and around a branch
  braces (choice who kernel relays from tests branches) = max 2 (suc (braces_among branches))
  braces (send label to) = 0
  braces (recv label from) = 0
  braces (run kernel) = 0
  braces barrier = 0
  braces (broadcast label root) = 0
  braces (reduce label op root) = 0
  braces (allreduce label op) = 0

  pub braces_all : Codes → ℕ
  braces_all nothing = 0
  braces_all (more c rest) = max (braces c) (braces_all rest)

  pub braces_among : Parts → ℕ
  braces_among no_part = 0
  braces_among (part b rest) = max (braces_all b) (braces_among rest)

-- how many braces of the file are open at most inside a statement
abbrev mutual
  pub depth : StmtTree → ℕ
  depth (T.message l f t) = 0
  depth (T.foreach b m items) = 1
  depth (T.loop id m body) = suc (depth_all body)
  depth (T.again id) = 0
  depth (T.choice k at bs) = suc (depth_among bs)
  depth (T.run k at) = 0
  depth T.barrier = 0
  depth (T.broadcast l root) = 0
  depth (T.reduce l op root) = 0
  depth (T.allreduce l op) = 0

  pub depth_all : BlockTree → ℕ
  depth_all T.nothing = 0
  depth_all (T.more m s rest) = max (depth s) (depth_all rest)

  pub depth_among : BranchTrees → ℕ
  depth_among T.no_branch = 0
  depth_among (T.branch m b bs) = max (depth_all b) (depth_among bs)

-- how many statements the text of a statement may have: of an item of a foreach an If and what is done for each of its two ends in the For, and for each a
-- segment with an Own
abbrev mutual
  pub room : StmtTree → ℕ
  room (T.message l f t) = 4
  room (T.foreach b m items) = 2 + room_each items
  room (T.loop id m body) = 2 + room_all body
  room (T.again id) = 1
  room (T.choice k at bs) = 3 + room_among bs
  room (T.run k at) = 2
  room T.barrier = 1
  room (T.broadcast l root) = 1
  room (T.reduce l op root) = 1
  room (T.allreduce l op) = 1

  pub room_all : BlockTree → ℕ
  room_all T.nothing = 0
  room_all (T.more m s rest) = room s + room_all rest

  pub room_among : BranchTrees → ℕ
  room_among T.no_branch = 0
  room_among (T.branch m b bs) = room_all b + room_among bs

  -- the items of a foreach
  pub room_each : BlockTree → ℕ
  room_each T.nothing = 0
  room_each (T.more m s rest) = 10 + room_each rest
