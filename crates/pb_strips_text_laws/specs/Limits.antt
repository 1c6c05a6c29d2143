-- The limits of a file with strips on what it says itself: its numbers, the branches of a choice, and how deep its braces
-- stand, those of `columns` aside. Roles and statements are counted in its flat file.
use Rattle.std.specs.Prelude.{ℕ, suc, ◌-◌, ◌<◌, ◌≤◌, List, [], ◌∷◌}
use Rattle.pb_do_text_laws.specs.Limits.{IsSmallRange, IsSmallOver, IsSmallIndex, IsSmallPayload}
use Rattle.pb_strips_syntax.specs.declared.tree.StripEnd.{StripEnd}
use Rattle.pb_strips_syntax.specs.declared.tree.StripRole.{StripRole}
use Rattle.pb_strips_syntax.specs.Strips.{Strip, message, foreach, loop, again, choice, compute, barrier, broadcast, reduce, allreduce, columns, Strips, nothing, more, StripBranches, no_branch, branch, PlainStripFile}

abbrev pub IsSmallEnd : StripEnd → Type 0
IsSmallEnd e = IsSmallIndex e.index

abbrev pub AreSmallRoles : List StripRole → Type 0
AreSmallRoles [] = Unit {0}
AreSmallRoles (r ∷ rs) = IsSmallOver r.range × AreSmallRoles rs

-- ---- statements

abbrev pub branch_count : StripBranches → ℕ
branch_count no_branch = 0
branch_count (branch at first rest) = suc (branch_count rest)

-- where so many more braces may be opened in the flat file, which has none of `columns`
abbrev mutual
  pub IsSmall : ℕ → Strip → Type 0
  IsSmall l (message label carries from to) = IsSmallPayload carries × (IsSmallEnd from × IsSmallEnd to)
  IsSmall l (foreach place var over at items) = (0 < l) × (IsSmallRange over × AreSmall (l - 1) items)
  IsSmall l (loop place name at body) = (0 < l) × AreSmall (l - 1) body
  IsSmall l (again place name) = Unit {0}
  IsSmall l (choice place kernel who branches) = (0 < l) × (IsSmallEnd who × ((branch_count branches ≤ 64) × AreSmallBranches (l - 1) branches))
  IsSmall l (compute place kernel who) = IsSmallEnd who
  IsSmall l (barrier place) = Unit {0}
  IsSmall l (broadcast place label carries from) = IsSmallPayload carries × IsSmallEnd from
  IsSmall l (reduce place label carries by to) = IsSmallPayload carries × IsSmallEnd to
  IsSmall l (allreduce place label carries by) = IsSmallPayload carries
  IsSmall l (columns place var low high at body) = AreSmall l body

  pub AreSmall : ℕ → Strips → Type 0
  AreSmall l nothing = Unit {0}
  AreSmall l (more first rest) = IsSmall l first × AreSmall l rest

  pub AreSmallBranches : ℕ → StripBranches → Type 0
  AreSmallBranches l no_branch = Unit {0}
  AreSmallBranches l (branch at first rest) = AreSmall l first × AreSmallBranches l rest

-- ---- a file

-- the braces of the protocol are open around its statements
pub record IsSmallFile (f : PlainStripFile) : Type 0 where
  pub low : f.low ≤ 100000
  pub roles : AreSmallRoles f.roles
  pub body : AreSmall 63 f.body.list
