-- The plain tree of a core as the program holds it.
use Rattle.std.specs.Prelude.{ℕ, List, [], ◌∷◌}
use Rattle.pb_affine.specs.declared.range.NRange.{NRange}
use Rattle.pb_syntax.specs.declared.core_label.CoreKernel.{CoreKernel}
use Rattle.pb_syntax.specs.declared.core_label.CoreLabel.{CoreLabel}
use Rattle.pb_core_language.specs.declared.protocol.Core.{Core}
use Rattle.pb_core_language.specs.declared.protocol.CoreRole.{CoreRole}
use Rattle.pb_core_language.specs.declared.tree.CoreBlock.{CoreBlock, CoreBlock-F, fold-CoreBlock}
use Rattle.pb_core_language.specs.declared.tree.CoreStmt.{CoreStmt, CoreStmt-F, fold-CoreStmt}
use Rattle.pb_core_language.specs.declared.tree.CoreKind.{CoreKind, CoreKind-F, fold-CoreKind}
use Rattle.pb_core_language.specs.declared.tree.CoreKind.TheOpen as Layer
use Rattle.pb_core_language.specs.Tree.{Mark, StmtTree, message, foreach, loop, again, choice, run, barrier, broadcast, reduce, allreduce, BlockTree, nothing, more, BranchTrees, no_branch, branch}

-- a block, or a statement, with its mark
pub record MarkedBlock : Type 0 where
  pub mark : Mark
  pub block : BlockTree

pub record MarkedStmt : Type 0 where
  pub mark : Mark
  pub stmt : StmtTree

abbrev pub block_of : List MarkedStmt → BlockTree
block_of [] = nothing
block_of (first ∷ rest) = more first.mark first.stmt (block_of rest)

abbrev pub branches_of : List MarkedBlock → BranchTrees
branches_of [] = no_branch
branches_of (first ∷ rest) = branch first.mark first.block (branches_of rest)

-- one layer of a value, with the plain trees of what it holds
abbrev pub kind_layer : CoreKind-F StmtTree MarkedBlock MarkedStmt → StmtTree
kind_layer (Layer.Message label from to) = message label from to
kind_layer (Layer.Foreach low high items) = foreach (record { low = low; high = high }) items.mark items.block
kind_layer (Layer.Loop id body) = loop id body.mark body.block
kind_layer (Layer.Again id) = again id
kind_layer (Layer.Choice kernel at branches) = choice kernel at (branches_of branches.items)
kind_layer (Layer.Run kernel at) = run kernel at
kind_layer Layer.Barrier = barrier
kind_layer (Layer.Broadcast label root) = broadcast label root
kind_layer (Layer.Reduce label op root) = reduce label op root
kind_layer (Layer.Allreduce label op) = allreduce label op

abbrev pub block_layer : CoreBlock-F StmtTree MarkedBlock MarkedStmt → MarkedBlock
block_layer layer = record { mark = record { number = layer.number; place = layer.place }; block = block_of layer.list.items }

abbrev pub stmt_layer : CoreStmt-F StmtTree MarkedBlock MarkedStmt → MarkedStmt
stmt_layer layer = record { mark = record { number = layer.number; place = layer.place }; stmt = layer.what }

abbrev pub plain_block : CoreBlock → MarkedBlock
plain_block = fold-CoreBlock StmtTree MarkedBlock MarkedStmt kind_layer block_layer stmt_layer

abbrev pub plain_stmt : CoreStmt → MarkedStmt
plain_stmt = fold-CoreStmt StmtTree MarkedBlock MarkedStmt kind_layer block_layer stmt_layer

abbrev pub plain_kind : CoreKind → StmtTree
plain_kind = fold-CoreKind StmtTree MarkedBlock MarkedStmt kind_layer block_layer stmt_layer

-- a protocol, for each N of its range
pub record Protocol : Type 0 where
  pub name : List ℕ
  pub range : NRange
  pub roles : List CoreRole
  pub labels : List CoreLabel
  pub kernels : List CoreKernel
  pub body : MarkedBlock
  pub statements : ℕ
  pub blocks : ℕ

abbrev pub plain : Core → Protocol
plain core = record {
  name = core.protocol;
  range = core.range;
  roles = core.roles.items;
  labels = core.labels.items;
  kernels = core.kernels.items;
  body = plain_block core.body;
  statements = core.statements;
  blocks = core.blocks;
}
