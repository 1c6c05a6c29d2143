-- The limits of a file with subprotocols on what it says itself: its numbers, the branches of a choice and the roles.
-- Statements and braces are counted where its calls are replaced.
use Rattle.std.specs.Prelude.{ℕ, suc, ◌≤◌, List, [], ◌∷◌, length, Option, Some, None}
use Rattle.pb_syntax.specs.declared.tree.LinText.{LinText}
use Rattle.pb_syntax.specs.declared.tree.RangeText.{RangeText}
use Rattle.pb_syntax.specs.declared.tree.IndexText.{IndexText}
use Rattle.pb_syntax.specs.declared.tree.IndexText.TheVariants.{Zero, At, Bind}
use Rattle.pb_syntax.specs.declared.tree.End.{End}
use Rattle.pb_syntax.specs.declared.tree.Payload.{Payload}
use Rattle.pb_syntax.specs.declared.tree.Payload.TheVariants as pay
use Rattle.pb_syntax.specs.declared.tree.RoleText.{RoleText}
use Rattle.pb_syntax.specs.Printed.{size}
use Rattle.pb_syntax.specs.Tree as tree
use Rattle.pb_syntax.specs.Tree.{PlainStatement}
use Rattle.pb_do_syntax.specs.Calls.{Call, plain, foreach, loop, choice, call, Calls, nothing, more, CallBranches, no_branch, branch, PlainSub, PlainCallFile}

-- ---- numbers

abbrev pub IsSmallLin : LinText → Type 0
IsSmallLin l = size l.off ≤ 100000

abbrev pub IsSmallRange : RangeText → Type 0
IsSmallRange over = IsSmallLin over.low × IsSmallLin over.high

abbrev pub IsSmallOver : Option RangeText → Type 0
IsSmallOver None = Unit {0}
IsSmallOver (Some over) = IsSmallRange over

abbrev pub IsSmallIndex : IndexText → Type 0
IsSmallIndex Zero = Unit {0}
IsSmallIndex (At l) = IsSmallLin l
IsSmallIndex (Bind x over) = IsSmallRange over

abbrev pub IsSmallEnd : End → Type 0
IsSmallEnd e = IsSmallIndex e.index

abbrev pub IsSmallPayload : Payload → Type 0
IsSmallPayload pay.Unit = Unit {0}
IsSmallPayload (pay.Int32 n) = n ≤ 1024
IsSmallPayload (pay.Uint32 n) = n ≤ 1024

abbrev pub AreSmallRoles : List RoleText → Type 0
AreSmallRoles [] = Unit {0}
AreSmallRoles (r ∷ rs) = IsSmallOver r.range × AreSmallRoles rs

-- ---- statements

-- a statement without braces
abbrev pub IsSmallPlain : PlainStatement → Type 0
IsSmallPlain (tree.message label carries from to) = IsSmallPayload carries × (IsSmallEnd from × IsSmallEnd to)
IsSmallPlain (tree.compute place kernel who) = IsSmallEnd who
IsSmallPlain (tree.broadcast place label carries from) = IsSmallPayload carries × IsSmallEnd from
IsSmallPlain (tree.reduce place label carries by to) = IsSmallPayload carries × IsSmallEnd to
IsSmallPlain (tree.allreduce place label carries by) = IsSmallPayload carries
IsSmallPlain other = Unit {0}

abbrev pub branch_count : CallBranches → ℕ
branch_count no_branch = 0
branch_count (branch at first rest) = suc (branch_count rest)

abbrev mutual
  pub IsSmall : Call → Type 0
  IsSmall (plain statement) = IsSmallPlain statement
  IsSmall (foreach place var over at items) = IsSmallRange over × AreSmall items
  IsSmall (loop place name at body) = AreSmall body
  IsSmall (choice place kernel who branches) = IsSmallEnd who × ((branch_count branches ≤ 64) × AreSmallBranches branches)
  IsSmall (call place sub args) = Unit {0}

  pub AreSmall : Calls → Type 0
  AreSmall nothing = Unit {0}
  AreSmall (more first rest) = IsSmall first × AreSmall rest

  pub AreSmallBranches : CallBranches → Type 0
  AreSmallBranches no_branch = Unit {0}
  AreSmallBranches (branch at first rest) = AreSmall first × AreSmallBranches rest

-- ---- a file

abbrev pub AreSmallSubs : List PlainSub → Type 0
AreSmallSubs [] = Unit {0}
AreSmallSubs (s ∷ ss) = AreSmall s.body.list × AreSmallSubs ss

pub record IsSmallFile (f : PlainCallFile) : Type 0 where
  pub subs : AreSmallSubs f.subs
  pub low : f.low ≤ 100000
  pub few : length f.roles ≤ 64
  pub roles : AreSmallRoles f.roles
  pub body : AreSmall f.body.list
