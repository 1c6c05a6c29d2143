-- What each core has that a file within the limits means, where the file keeps the rules 1 to 5: small numbers, rows that
-- are there, a variable only within its foreach, and a continue only within its loop.
use Rattle.std.specs.Prelude.{ℕ, ℤ, pos, negsuc, int_le, nat_eq, nat_le, nat_lt, Bool, true, false, ◌||◌, ◌&&◌, not, Option, Some, None, List, [], ◌∷◌, length}
use Rattle.std.specs.List.{list_any}
use Rattle.pb_affine.specs.declared.lin.Base.{Base}
use Rattle.pb_affine.specs.declared.lin.Base.TheVariants.{Fixed, Param, Var}
use Rattle.pb_affine.specs.declared.lin.Lin.{Lin}
use Rattle.pb_affine.specs.declared.range.NRange.{NRange}
use Rattle.pb_core_language.specs.declared.protocol.CoreRole.{CoreRole}
use Rattle.pb_core_language.specs.declared.tree.CoreEnd.{CoreEnd}
use Rattle.pb_core_language.specs.Tree.{StmtTree, message, foreach, loop, again, choice, run, barrier, broadcast, reduce, allreduce, BlockTree, nothing, more, BranchTrees, no_branch, branch}
use Rattle.pb_core_language.specs.declared.tree.Bounds.{Bounds}
use Rattle.pb_core_language.specs.Plain.{Protocol}

-- ---- lins

-- within 100,000 of zero
abbrev pub is_small : ℤ → Bool
is_small x = int_le (negsuc 99999) x && int_le x (pos 100000)

-- no variable
abbrev pub is_over_n : Base → Bool
is_over_n Fixed = true
is_over_n Param = true
is_over_n Var = false

-- the low or the high end of a role or a foreach
abbrev pub is_bound : Lin → Bool
is_bound l = is_over_n l.base && is_small l.off

-- ---- statements

-- how many roles, labels and kernels there are
pub record Rows : Type 0 where
  pub roles : ℕ
  pub labels : ℕ
  pub kernels : ℕ

-- an end, in a foreach or not
abbrev pub is_end : Rows → Bool → CoreEnd → Bool
is_end rows varies e = nat_lt e.role rows.roles && ((varies || is_over_n e.at.base) && is_small e.at.off)

-- a foreach has messages and computes alone
abbrev pub is_item : StmtTree → Bool
is_item (message label from to) = true
is_item (foreach bounds mark items) = false
is_item (loop id mark body) = false
is_item (again id) = false
is_item (choice kernel at branches) = false
is_item (run kernel at) = true
is_item barrier = false
is_item (broadcast label root) = false
is_item (reduce label op root) = false
is_item (allreduce label op) = false

abbrev pub has_branch : BranchTrees → Bool
has_branch no_branch = false
has_branch (branch mark first rest) = true

-- A statement, in a foreach or not, within the loops with these ids, of which there are fewer than 64.
abbrev mutual
  pub is_stmt : Rows → Bool → List ℕ → StmtTree → Bool
  is_stmt rows varies opens (message label from to) = nat_lt label rows.labels && (is_end rows varies from && is_end rows varies to)
  is_stmt rows varies opens (foreach bounds mark items) = is_bound bounds.low && (is_bound bounds.high && is_block rows true opens items)
  is_stmt rows varies opens (loop id mark body) = nat_lt (length opens) 64 && is_block rows false (id ∷ opens) body
  is_stmt rows varies opens (again id) = list_any (nat_eq id) opens
  is_stmt rows varies opens (choice kernel at branches) = nat_lt kernel rows.kernels && (is_end rows false at && (has_branch branches && are_branches rows opens branches))
  is_stmt rows varies opens (run kernel at) = nat_lt kernel rows.kernels && is_end rows varies at
  is_stmt rows varies opens barrier = true
  is_stmt rows varies opens (broadcast label root) = nat_lt label rows.labels && is_end rows false root
  is_stmt rows varies opens (reduce label op root) = nat_lt label rows.labels && is_end rows false root
  is_stmt rows varies opens (allreduce label op) = nat_lt label rows.labels

  pub is_block : Rows → Bool → List ℕ → BlockTree → Bool
  is_block rows varies opens nothing = true
  is_block rows varies opens (more mark first rest) = (not varies || is_item first) && (is_stmt rows varies opens first && is_block rows varies opens rest)

  pub are_branches : Rows → List ℕ → BranchTrees → Bool
  are_branches rows opens no_branch = true
  are_branches rows opens (branch mark first rest) = is_block rows false opens first && are_branches rows opens rest

-- ---- protocols

abbrev pub are_roles : List CoreRole → Bool
are_roles [] = true
are_roles (r ∷ rs) = is_bound r.low && (is_bound r.high && are_roles rs)

abbrev pub reaches : ℕ → Option ℕ → Bool
reaches low None = true
reaches low (Some high) = nat_le low high

-- some N from 1 on; the least is at most 100,000
abbrev pub is_range : NRange → Bool
is_range r = nat_lt 0 r.low && (nat_le r.low 100000 && reaches r.low r.high)

abbrev pub rows_of : Protocol → Rows
rows_of p = record { roles = length p.roles; labels = length p.labels; kernels = length p.kernels }

abbrev pub is_sound : Protocol → Bool
is_sound p = is_range p.range && (nat_le (length p.roles) 64 && (are_roles p.roles && is_block (rows_of p) false [] p.body.block))
