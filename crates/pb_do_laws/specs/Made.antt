-- What the grammar of files with calls says of a tree: what stands without braces has none, and a foreach holds messages
-- and computes alone.
use Rattle.std.specs.Prelude.{◌≡◌, Bool, true, false, ◌&&◌, List, [], ◌∷◌}
use Rattle.pb_syntax.specs.Tree as tree
use Rattle.pb_syntax.specs.Tree.{PlainStatement}
use Rattle.pb_do_syntax.specs.Calls.{Call, plain, foreach, loop, choice, call, Calls, nothing, more, CallBranches, no_branch, branch, PlainSub, PlainCallFile}

abbrev pub has_no_braces : PlainStatement → Bool
has_no_braces (tree.message l p from to) = true
has_no_braces (tree.foreach at x over place items) = false
has_no_braces (tree.loop at x place body) = false
has_no_braces (tree.again at x) = true
has_no_braces (tree.choice at k who bs) = false
has_no_braces (tree.compute at k who) = true
has_no_braces (tree.barrier at) = true
has_no_braces (tree.broadcast at l p from) = true
has_no_braces (tree.reduce at l p o to) = true
has_no_braces (tree.allreduce at l p o) = true

abbrev pub can_be_item : PlainStatement → Bool
can_be_item (tree.message l p from to) = true
can_be_item (tree.compute at k who) = true
can_be_item (tree.foreach at x over place items) = false
can_be_item (tree.loop at x place body) = false
can_be_item (tree.again at x) = false
can_be_item (tree.choice at k who bs) = false
can_be_item (tree.barrier at) = false
can_be_item (tree.broadcast at l p from) = false
can_be_item (tree.reduce at l p o to) = false
can_be_item (tree.allreduce at l p o) = false

abbrev pub is_item : Call → Bool
is_item (plain statement) = can_be_item statement
is_item (foreach place var range at items) = false
is_item (loop place name at body) = false
is_item (choice place kernel who branches) = false
is_item (call place sub args) = false

abbrev pub are_items : Calls → Bool
are_items nothing = true
are_items (more s rest) = is_item s && are_items rest

abbrev mutual
  pub is_made : Call → Bool
  is_made (plain statement) = has_no_braces statement
  is_made (foreach place var range at items) = are_items items
  is_made (loop place name at body) = are_made body
  is_made (choice place kernel who branches) = branches_are_made branches
  is_made (call place sub args) = true

  pub are_made : Calls → Bool
  are_made nothing = true
  are_made (more s rest) = is_made s && are_made rest

  pub branches_are_made : CallBranches → Bool
  branches_are_made no_branch = true
  branches_are_made (branch at first rest) = are_made first && branches_are_made rest

abbrev pub subs_are_made : List PlainSub → Bool
subs_are_made [] = true
subs_are_made (s ∷ ss) = are_made s.body.list && subs_are_made ss

pub record IsMade (f : PlainCallFile) : Type 0 where
  pub subs : subs_are_made f.subs ≡ true
  pub body : are_made f.body.list ≡ true
