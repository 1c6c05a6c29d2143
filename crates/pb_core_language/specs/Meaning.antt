-- The core that a file means: names are numbers, and a message with a binding end is a foreach of that one message.
use Rattle.std.specs.Prelude.{ℕ, zero, suc, ◌+◌, ℤ, pos, Bool, true, false, if◌then◌else◌, Option, Some, None, List, [], ◌∷◌, ◌++◌, length}
use Rattle.pb_affine.specs.declared.lin.Base.{Base}
use Rattle.pb_affine.specs.declared.lin.Base.TheVariants.{Fixed, Param, Var}
use Rattle.pb_affine.specs.declared.lin.Lin.{Lin}
use Rattle.pb_affine.specs.declared.range.NRange.{NRange}
use Rattle.pb_text.specs.declared.place.Place.{Place}
use Rattle.pb_text.specs.declared.place.Spot.{Spot}
use Rattle.pb_syntax.specs.declared.core_label.CoreKernel.{CoreKernel}
use Rattle.pb_syntax.specs.declared.core_label.CoreLabel.{CoreLabel}
use Rattle.pb_syntax.specs.declared.core_label.KernelKind.{KernelKind}
use Rattle.pb_syntax.specs.declared.core_label.KernelKind.TheVariants as K
use Rattle.pb_syntax.specs.declared.tree.High.{High}
use Rattle.pb_syntax.specs.declared.tree.High.TheVariants.{Upto, Max}
use Rattle.pb_syntax.specs.declared.tree.LinText.{LinText}
use Rattle.pb_syntax.specs.declared.tree.RangeText.{RangeText}
use Rattle.pb_syntax.specs.declared.tree.IndexText.{IndexText}
use Rattle.pb_syntax.specs.declared.tree.IndexText.TheVariants.{Zero, At, Bind}
use Rattle.pb_syntax.specs.declared.tree.End.{End}
use Rattle.pb_syntax.specs.declared.tree.RoleText.{RoleText}
use Rattle.pb_syntax.specs.Tree as F
use Rattle.pb_syntax.specs.Tree.{PlainStatement, compute, PlainStatements, PlainBranches, PlainFile}
use Rattle.pb_core_language.specs.declared.protocol.CoreRole.{CoreRole}
use Rattle.pb_core_language.specs.declared.tree.CoreEnd.{CoreEnd}
use Rattle.pb_core_language.specs.Tree.{Mark, StmtTree, message, foreach, loop, again, choice, run, barrier, broadcast, reduce, allreduce, BlockTree, nothing, more, BranchTrees, no_branch, branch}
use Rattle.pb_core_language.specs.declared.tree.Bounds.{Bounds}
use Rattle.pb_core_language.specs.Plain.{Protocol}
use Rattle.pb_core_language.specs.Names.{Name, same}
use Rattle.pb_core_language.specs.FileRules.{Labelled, labels_in, role_names, place_of}

-- ---- tables

-- the position of a name; the list's length where it isn't there
abbrev pub position_of : Name → List Name → ℕ
position_of x [] = 0
position_of x (y ∷ ys) = if same x y then 0 else suc (position_of x ys)

abbrev pub has_label : Name → List CoreLabel → Bool
has_label x [] = false
has_label x (l ∷ ls) = if same x l.name then true else has_label x ls

abbrev pub label_names : List CoreLabel → List Name
label_names [] = []
label_names (l ∷ ls) = l.name ∷ label_names ls

-- each label once, in order of first appearance, behind those that are there already
abbrev pub labels_after : List CoreLabel → List Labelled → List CoreLabel
labels_after there [] = there
labels_after there (l ∷ ls) =
    labels_after (if has_label l.label.name there then there else there ++ record { name = l.label.name; payload = l.payload } ∷ []) ls

abbrev pub labels_of : PlainFile → List CoreLabel
labels_of f = labels_after [] (labels_in f.body.list)

abbrev pub has_kernel : Name → List CoreKernel → Bool
has_kernel x [] = false
has_kernel x (k ∷ ks) = if same x k.name then true else has_kernel x ks

abbrev pub kernel_names : List CoreKernel → List Name
kernel_names [] = []
kernel_names (k ∷ ks) = k.name ∷ kernel_names ks

abbrev mutual
  pub kernels_at : PlainStatement → List CoreKernel
  kernels_at (F.message l p f t) = []
  kernels_at (F.foreach at x over place items) = kernels_in items
  kernels_at (F.loop at x place body) = kernels_in body
  kernels_at (F.again at x) = []
  kernels_at (F.choice at k who bs) = record { name = k.name; kind = K.Choice } ∷ kernels_among bs
  kernels_at (compute at k who) = record { name = k.name; kind = K.Compute } ∷ []
  kernels_at (F.barrier at) = []
  kernels_at (F.broadcast at l p f) = []
  kernels_at (F.reduce at l p o t) = []
  kernels_at (F.allreduce at l p o) = []

  pub kernels_in : PlainStatements → List CoreKernel
  kernels_in F.nothing = []
  kernels_in (F.more s rest) = kernels_at s ++ kernels_in rest

  pub kernels_among : PlainBranches → List CoreKernel
  kernels_among F.no_branch = []
  kernels_among (F.branch at b bs) = kernels_in b ++ kernels_among bs

abbrev pub kernels_after : List CoreKernel → List CoreKernel → List CoreKernel
kernels_after there [] = there
kernels_after there (k ∷ ks) = kernels_after (if has_kernel k.name there then there else there ++ k ∷ []) ks

abbrev pub kernels_of : PlainFile → List CoreKernel
kernels_of f = kernels_after [] (kernels_in f.body.list)

-- ---- numbers of statements and blocks

abbrev pub binds : IndexText → Bool
binds Zero = false
binds (At l) = false
binds (Bind x over) = true

-- a message that binds is a foreach, its block and a message in it
abbrev mutual
  pub stmts_at : PlainStatement → ℕ
  stmts_at (F.message l p f t) = if binds f.index then 2 else (if binds t.index then 2 else 1)
  stmts_at (F.foreach at x over place items) = 1 + stmts_in items
  stmts_at (F.loop at x place body) = 1 + stmts_in body
  stmts_at (F.again at x) = 1
  stmts_at (F.choice at k who bs) = 1 + stmts_among bs
  stmts_at (compute at k who) = 1
  stmts_at (F.barrier at) = 1
  stmts_at (F.broadcast at l p f) = 1
  stmts_at (F.reduce at l p o t) = 1
  stmts_at (F.allreduce at l p o) = 1

  pub stmts_in : PlainStatements → ℕ
  stmts_in F.nothing = 0
  stmts_in (F.more s rest) = stmts_at s + stmts_in rest

  pub stmts_among : PlainBranches → ℕ
  stmts_among F.no_branch = 0
  stmts_among (F.branch at b bs) = stmts_in b + stmts_among bs

abbrev mutual
  pub blocks_at : PlainStatement → ℕ
  blocks_at (F.message l p f t) = if binds f.index then 1 else (if binds t.index then 1 else 0)
  blocks_at (F.foreach at x over place items) = 1 + blocks_in items
  blocks_at (F.loop at x place body) = 1 + blocks_in body
  blocks_at (F.again at x) = 0
  blocks_at (F.choice at k who bs) = blocks_among bs
  blocks_at (compute at k who) = 0
  blocks_at (F.barrier at) = 0
  blocks_at (F.broadcast at l p f) = 0
  blocks_at (F.reduce at l p o t) = 0
  blocks_at (F.allreduce at l p o) = 0

  pub blocks_in : PlainStatements → ℕ
  blocks_in F.nothing = 0
  blocks_in (F.more s rest) = blocks_at s + blocks_in rest

  pub blocks_among : PlainBranches → ℕ
  blocks_among F.no_branch = 0
  blocks_among (F.branch at b bs) = (1 + blocks_in b) + blocks_among bs

-- ---- the tree

-- what the names of a file are: the constant, and the roles, labels and kernels in the order of their numbers
pub record Table : Type 0 where
  pub constant : Name
  pub roles : List Name
  pub labels : List Name
  pub kernels : List Name

abbrev pub lin_of : Name → LinText → Lin
lin_of constant l = elim l.base [ None ↦ record { base = Fixed; off = l.off } | Some x ↦ record { base = if same x.name constant then Param else Var; off = l.off } ]

abbrev pub bounds_of : Name → RangeText → Bounds
bounds_of constant over = record { low = lin_of constant over.low; high = lin_of constant over.high }

-- an end that binds a variable is at the variable
abbrev pub index_of : Name → IndexText → Lin
index_of constant Zero = record { base = Fixed; off = pos 0 }
index_of constant (At l) = lin_of constant l
index_of constant (Bind x over) = record { base = Var; off = pos 0 }

abbrev pub end_of : Table → End → CoreEnd
end_of t e = record { role = position_of e.role.name t.roles; at = index_of t.constant e.index; place = e.role.place }

abbrev pub mark : ℕ → Place → Mark
mark k at = record { number = k; place = at }

-- a message whose ends are as they stand
abbrev pub message_of : Table → Spot → End → End → StmtTree
message_of t l f to = message (position_of l.name t.labels) (end_of t f) (end_of t to)

-- statement s is a foreach over block b with that one message
abbrev pub bound_message : Table → ℕ → ℕ → Spot → End → End → RangeText → StmtTree
bound_message t s b l f to over = foreach (bounds_of t.constant over) (mark b l.place) (more (mark (suc s) l.place) (message_of t l f to) nothing)

abbrev pub with_sender : Table → ℕ → ℕ → Spot → End → End → IndexText → StmtTree → StmtTree
with_sender t s b l f to Zero other = other
with_sender t s b l f to (At x) other = other
with_sender t s b l f to (Bind x over) other = bound_message t s b l f to over

-- The statements with numbers from s on, and their blocks with numbers from b on. A loop's id is its statement's number; a
-- continue has that of the innermost loop of its name.
pub record Open : Type 0 where
  pub name : Name
  pub id : ℕ

abbrev pub id_of : Name → List Open → ℕ
id_of x [] = 0
id_of x (o ∷ os) = if same x o.name then o.id else id_of x os

abbrev mutual
  pub stmt_of : Table → List Open → ℕ → ℕ → PlainStatement → StmtTree
  stmt_of t open_loops s b (F.message l p f to) = with_sender t s b l f to f.index (with_sender t s b l f to to.index (message_of t l f to))
  stmt_of t open_loops s b (F.foreach at x over place items) = foreach (bounds_of t.constant over) (mark b place) (block_of t open_loops (suc s) (suc b) items)
  stmt_of t open_loops s b (F.loop at x place body) = loop s (mark b place) (block_of t (record { name = x.name; id = s } ∷ open_loops) (suc s) (suc b) body)
  stmt_of t open_loops s b (F.again at x) = again (id_of x.name open_loops)
  stmt_of t open_loops s b (F.choice at k who bs) = choice (position_of k.name t.kernels) (end_of t who) (branches_of t open_loops (suc s) b bs)
  stmt_of t open_loops s b (compute at k who) = run (position_of k.name t.kernels) (end_of t who)
  stmt_of t open_loops s b (F.barrier at) = barrier
  stmt_of t open_loops s b (F.broadcast at l p f) = broadcast (position_of l.name t.labels) (end_of t f)
  stmt_of t open_loops s b (F.reduce at l p o to) = reduce (position_of l.name t.labels) o (end_of t to)
  stmt_of t open_loops s b (F.allreduce at l p o) = allreduce (position_of l.name t.labels) o

  pub block_of : Table → List Open → ℕ → ℕ → PlainStatements → BlockTree
  block_of t open_loops s b F.nothing = nothing
  block_of t open_loops s b (F.more x rest) = more (mark s (place_of x)) (stmt_of t open_loops s b x) (block_of t open_loops (s + stmts_at x) (b + blocks_at x) rest)

  pub branches_of : Table → List Open → ℕ → ℕ → PlainBranches → BranchTrees
  branches_of t open_loops s b F.no_branch = no_branch
  branches_of t open_loops s b (F.branch at x rest) = branch (mark b at) (block_of t open_loops s (suc b) x) (branches_of t open_loops (s + stmts_in x) (suc (b + blocks_in x)) rest)

-- ---- the protocol

-- a role without a range has the index 0 alone
abbrev pub role_of : Name → RoleText → CoreRole
role_of constant r = elim r.range [
  | None ↦ record { name = r.role.name; place = r.role.place; low = record { base = Fixed; off = pos 0 }; high = record { base = Fixed; off = pos 0 } }
  | Some over ↦ record { name = r.role.name; place = r.role.place; low = lin_of constant over.low; high = lin_of constant over.high }
]

abbrev pub roles_of : Name → List RoleText → List CoreRole
roles_of constant [] = []
roles_of constant (r ∷ rs) = role_of constant r ∷ roles_of constant rs

abbrev pub high_of : High → Option ℕ
high_of (Upto hi) = Some hi
high_of Max = None

abbrev pub table_of : PlainFile → Table
table_of f = record { constant = f.constant.name; roles = role_names f.roles; labels = label_names (labels_of f); kernels = kernel_names (kernels_of f) }

abbrev pub meaning : PlainFile → Protocol
meaning f = record {
  name = f.protocol.name;
  range = record { low = f.low; high = high_of f.high };
  roles = roles_of f.constant.name f.roles;
  labels = labels_of f;
  kernels = kernels_of f;
  body = record { mark = mark 0 f.body.place; block = block_of (table_of f) [] 0 1 f.body.list };
  statements = stmts_in f.body.list;
  blocks = 1 + blocks_in f.body.list;
}
