-- The endpoints of an accepted file.
use Rattle.std.specs.Prelude.{◌≡◌, ◌≢◌, ℤ, Bool, true, false, ◌&&◌, not, List, []}
use Rattle.pb_text.specs.declared.token.Token.{Token}
use Rattle.pb_syntax.specs.Tree.{PlainStatement, message, foreach, loop, again, choice, compute, barrier, broadcast, reduce, allreduce, PlainStatements, nothing, more, PlainBranches, no_branch, branch, PlainFile}
use Rattle.pb_syntax.specs.Grammar.{IsFile}
use Rattle.pb_world.specs.Family.{Laws}
use Rattle.pb_world.specs.Theorem.{AllRanks}
use Rattle.pb_core_language.specs.Collectives.{setting_of}
use Rattle.pb_core_language.specs.Meaning.{binds, meaning}
use Rattle.pb_core_language.specs.Rules.{flat_at}
use Rattle.pb_core_language.specs.Verdict.{IsIn, IsAccepted}
use Rattle.pb_core_endpoint.specs.Once.{once_family}

-- ---- what the grammar says of a tree: a foreach holds messages that bind nothing and computes, and a choice has a branch

abbrev pub is_item : PlainStatement → Bool
is_item (message l p f t) = not (binds f.index) && not (binds t.index)
is_item (compute at k who) = true
is_item (foreach at x over place items) = false
is_item (loop at x place body) = false
is_item (again at x) = false
is_item (choice at k who bs) = false
is_item (barrier at) = false
is_item (broadcast at l p f) = false
is_item (reduce at l p o t) = false
is_item (allreduce at l p o) = false

abbrev pub are_items : PlainStatements → Bool
are_items nothing = true
are_items (more s rest) = is_item s && are_items rest

abbrev pub has_some : PlainBranches → Bool
has_some no_branch = false
has_some (branch at b bs) = true

abbrev mutual
  pub has_shape : PlainStatement → Bool
  has_shape (foreach at x over place items) = are_items items
  has_shape (loop at x place body) = have_shape body
  has_shape (choice at k who bs) = has_some bs && branches_have_shape bs
  has_shape (message l p f t) = true
  has_shape (again at x) = true
  has_shape (compute at k who) = true
  has_shape (barrier at) = true
  has_shape (broadcast at l p f) = true
  has_shape (reduce at l p o t) = true
  has_shape (allreduce at l p o) = true

  pub have_shape : PlainStatements → Bool
  have_shape nothing = true
  have_shape (more s rest) = has_shape s && have_shape rest

  pub branches_have_shape : PlainBranches → Bool
  branches_have_shape no_branch = true
  branches_have_shape (branch at b bs) = have_shape b && branches_have_shape bs

-- and a protocol has a role
pub record IsShaped (f : PlainFile) : Type 0 where
  pub roles : f.roles ≢ []
  pub body : have_shape f.body.list ≡ true

abbrev pub FilesAreShaped : Type 0
FilesAreShaped = (ts : List Token) (f : PlainFile) → IsFile ts f → IsShaped f

-- Where a file is accepted, its ranks do it for every N of its range: each rank's endpoint follows its part of the sequential
-- run, and all ranks together do the run in whatever order their events come, and stop only at its end.
abbrev pub FileRanks : Type 0
FileRanks =
    (ts : List Token) (f : PlainFile) → IsFile ts f → IsAccepted f → (n : ℤ) → IsIn (meaning f).range n →
    Laws (once_family (setting_of (meaning f) n) (flat_at (meaning f) n)) × AllRanks (once_family (setting_of (meaning f) n) (flat_at (meaning f) n))
