-- The cuts of a protocol: the lins between which something may change at an index.
use Rattle.std.specs.Prelude.{ℕ, ℤ, pos, ◌+ℤ◌, Option, Some, None, List, [], ◌∷◌, ◌++◌}
use Rattle.pb_affine.specs.declared.lin.Base.{Base}
use Rattle.pb_affine.specs.declared.lin.Base.TheVariants.{Fixed, Param, Var}
use Rattle.pb_affine.specs.declared.lin.Lin.{Lin}
use Rattle.pb_affine.specs.Values.{shifted}
use Rattle.pb_core_language.specs.declared.protocol.CoreRole.{CoreRole}
use Rattle.pb_core_language.specs.declared.tree.CoreEnd.{CoreEnd}
use Rattle.pb_core_language.specs.Tree.{StmtTree, message, foreach, loop, again, choice, run, barrier, broadcast, reduce, allreduce, BlockTree, nothing, more, BranchTrees, no_branch, branch}
use Rattle.pb_core_language.specs.declared.tree.Bounds.{Bounds}
use Rattle.pb_core_language.specs.Plain.{Protocol}

-- low and high + 1
abbrev pub edges : Lin → Lin → List Lin
edges low high = low ∷ shifted high (pos 1) ∷ []

-- where the variable runs, if it does, the end i + c lies between low + c and high + c
abbrev pub moving : Option Bounds → ℤ → List Lin
moving None c = []
moving (Some h) c = edges (shifted h.low c) (shifted h.high c)

abbrev pub lin_cuts : Option Bounds → Base → ℤ → List Lin
lin_cuts over Fixed c = edges (record { base = Fixed; off = c }) (record { base = Fixed; off = c })
lin_cuts over Param c = edges (record { base = Param; off = c }) (record { base = Param; off = c })
lin_cuts over Var c = moving over c

abbrev pub end_cuts : Option Bounds → CoreEnd → List Lin
end_cuts over e = lin_cuts over e.at.base e.at.off

abbrev mutual
  pub stmt_cuts : Option Bounds → StmtTree → List Lin
  stmt_cuts over (message label from to) = end_cuts over from ++ end_cuts over to
  stmt_cuts over (foreach bounds mark items) = edges bounds.low bounds.high ++ block_cuts (Some bounds) items
  stmt_cuts over (loop id mark body) = block_cuts over body
  stmt_cuts over (again id) = []
  stmt_cuts over (choice kernel at branches) = end_cuts over at ++ branches_cuts over branches
  stmt_cuts over (run kernel at) = end_cuts over at
  stmt_cuts over barrier = []
  stmt_cuts over (broadcast label root) = end_cuts over root
  stmt_cuts over (reduce label op root) = end_cuts over root
  stmt_cuts over (allreduce label op) = []

  pub block_cuts : Option Bounds → BlockTree → List Lin
  block_cuts over nothing = []
  block_cuts over (more mark first rest) = stmt_cuts over first ++ block_cuts over rest

  pub branches_cuts : Option Bounds → BranchTrees → List Lin
  branches_cuts over no_branch = []
  branches_cuts over (branch mark first rest) = block_cuts over first ++ branches_cuts over rest

abbrev pub role_cuts : List CoreRole → List Lin
role_cuts [] = []
role_cuts (r ∷ rs) = edges r.low r.high ++ role_cuts rs

-- of the roles, the ends and the foreaches
abbrev pub cuts : Protocol → List Lin
cuts p = role_cuts p.roles ++ block_cuts None p.body.block
