-- What the grammar and the limits say of a file's tree: its numbers are small, a foreach holds messages and computes alone,
-- a choice has a branch, and fewer than 64 loops stand around each statement. And how much of it is counted.
use Rattle.std.proofs.Common.{◌≡◌, ℕ, suc, ◌+◌, ◌<◌, ◌≤◌, true, Option, Some, None, List, [], ◌∷◌, length}
use Rattle.pb_syntax.specs.declared.tree.LinText.{LinText}
use Rattle.pb_syntax.specs.declared.tree.RangeText.{RangeText}
use Rattle.pb_syntax.specs.declared.tree.IndexText.{IndexText}
use Rattle.pb_syntax.specs.declared.tree.IndexText.TheVariants.{Zero, At, Bind}
use Rattle.pb_syntax.specs.declared.tree.End.{End}
use Rattle.pb_syntax.specs.declared.tree.RoleText.{RoleText}
use Rattle.pb_syntax.specs.Tree.{PlainStatement, message, foreach, loop, again, choice, compute, barrier, broadcast, reduce, allreduce, PlainStatements, nothing, more, PlainBranches, no_branch, branch, PlainFile}
use Rattle.pb_core_language.specs.Sound.{is_small}

-- ---- small numbers

abbrev pub IsSmallLin : LinText → Type 0
IsSmallLin l = is_small l.off ≡ true

abbrev pub IsSmallRange : RangeText → Type 0
IsSmallRange over = IsSmallLin over.low × IsSmallLin over.high

abbrev pub IsSmallOver : Option RangeText → Type 0
IsSmallOver None = Unit {0}
IsSmallOver (Some over) = IsSmallRange over

abbrev pub IsSmallIndex : IndexText → Type 0
IsSmallIndex Zero = Unit {0}
IsSmallIndex (At l) = IsSmallLin l
IsSmallIndex (Bind x over) = IsSmallRange over

-- and it binds no variable
abbrev pub IsPlainIndex : IndexText → Type 0
IsPlainIndex Zero = Unit {0}
IsPlainIndex (At l) = IsSmallLin l
IsPlainIndex (Bind x over) = ⊥

abbrev pub IsSmallEnd : End → Type 0
IsSmallEnd e = IsSmallIndex e.index

abbrev pub IsPlainEnd : End → Type 0
IsPlainEnd e = IsPlainIndex e.index

abbrev pub AreSmallRoles : List RoleText → Type 0
AreSmallRoles [] = Unit {0}
AreSmallRoles (r ∷ rs) = IsSmallOver r.range × AreSmallRoles rs

-- ---- statements

abbrev pub IsItem : PlainStatement → Type 0
IsItem (message l p f t) = IsPlainEnd f × IsPlainEnd t
IsItem (compute at k who) = IsPlainEnd who
IsItem (foreach at x over place items) = ⊥
IsItem (loop at x place body) = ⊥
IsItem (again at x) = ⊥
IsItem (choice at k who bs) = ⊥
IsItem (barrier at) = ⊥
IsItem (broadcast at l p f) = ⊥
IsItem (reduce at l p o t) = ⊥
IsItem (allreduce at l p o) = ⊥

abbrev pub AreItems : PlainStatements → Type 0
AreItems nothing = Unit {0}
AreItems (more s rest) = IsItem s × AreItems rest

abbrev pub HasBranch : PlainBranches → Type 0
HasBranch no_branch = ⊥
HasBranch (branch at b bs) = Unit {0}

-- within so many loops
abbrev mutual
  pub IsShaped : ℕ → PlainStatement → Type 0
  IsShaped k (message l p f t) = IsSmallEnd f × IsSmallEnd t
  IsShaped k (foreach at x over place items) = IsSmallRange over × AreItems items
  IsShaped k (loop at x place body) = (k < 64) × AreShaped (suc k) body
  IsShaped k (again at x) = Unit {0}
  IsShaped k (choice at kernel who bs) = IsPlainEnd who × (HasBranch bs × AreBranches k bs)
  IsShaped k (compute at kernel who) = IsPlainEnd who
  IsShaped k (barrier at) = Unit {0}
  IsShaped k (broadcast at l p f) = IsPlainEnd f
  IsShaped k (reduce at l p o t) = IsPlainEnd t
  IsShaped k (allreduce at l p o) = Unit {0}

  pub AreShaped : ℕ → PlainStatements → Type 0
  AreShaped k nothing = Unit {0}
  AreShaped k (more s rest) = IsShaped k s × AreShaped k rest

  pub AreBranches : ℕ → PlainBranches → Type 0
  AreBranches k no_branch = Unit {0}
  AreBranches k (branch at b bs) = AreShaped k b × AreBranches k bs

-- ---- how much is counted

abbrev pub over_weight : Option RangeText → ℕ
over_weight None = 0
over_weight (Some over) = 2

abbrev pub index_weight : IndexText → ℕ
index_weight Zero = 0
index_weight (At l) = 1
index_weight (Bind x over) = 3

abbrev pub roles_weight : List RoleText → ℕ
roles_weight [] = 0
roles_weight (r ∷ rs) = suc (over_weight r.range) + roles_weight rs

-- no less than the statements, than the blocks and than the names
abbrev mutual
  pub weight_at : PlainStatement → ℕ
  weight_at (message l p f t) = 3 + (index_weight f.index + index_weight t.index)
  weight_at (foreach at x over place items) = 3 + weight_in items
  weight_at (loop at x place body) = 1 + weight_in body
  weight_at (again at x) = 1
  weight_at (choice at k who bs) = 2 + (index_weight who.index + weight_among bs)
  weight_at (compute at k who) = 2 + index_weight who.index
  weight_at (barrier at) = 1
  weight_at (broadcast at l p f) = 2 + index_weight f.index
  weight_at (reduce at l p o t) = 2 + index_weight t.index
  weight_at (allreduce at l p o) = 1

  pub weight_in : PlainStatements → ℕ
  weight_in nothing = 0
  weight_in (more s rest) = weight_at s + weight_in rest

  pub weight_among : PlainBranches → ℕ
  weight_among no_branch = 0
  weight_among (branch at b bs) = (1 + weight_in b) + weight_among bs

-- ---- files

pub record IsShapedFile (f : PlainFile) : Type 0 where
  pub low : f.low ≤ 100000
  pub few : length f.roles ≤ 64
  pub roles : AreSmallRoles f.roles
  pub body : AreShaped 0 f.body.list

abbrev pub file_weight : PlainFile → ℕ
file_weight f = 3 + (roles_weight f.roles + weight_in f.body.list)
