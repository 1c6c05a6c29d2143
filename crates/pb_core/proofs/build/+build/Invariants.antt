use Rattle.std.proofs.Common.{◌≡◌, ◌+◌, map, drop}
use Rattle.pb_syntax.specs.Plain as F
use Rattle.pb_syntax.specs.Tree.{statements_of, branches_of}
use Rattle.pb_core_language.specs.Plain as P
use Rattle.pb_core_language.specs.Meaning as M
use Rattle.pb_core.specs.Building.{table_of, open_of, before_block, before_branches}
use Rattle.pb_core.proofs.build.+build.Given as goal

abbrev pub invariant-build_list-loop-statement : goal.invariant-build_list-loop-statement
invariant-build_list-loop-statement l = record {
  built :
      before_block (map P.plain_stmt l.built.items) (M.block_of (table_of l.tables) (open_of l.loops) l.counts.statements l.counts.blocks (statements_of (map F.plain_statement (drop l.statement-index l.list))))
      ≡ M.block_of (table_of l.tables) (open_of l.loops) l.fn.counts.statements l.fn.counts.blocks (statements_of (map F.plain_statement l.list));
  statements : l.counts.statements + M.stmts_in (statements_of (map F.plain_statement (drop l.statement-index l.list))) ≡ l.fn.counts.statements + M.stmts_in (statements_of (map F.plain_statement l.list));
  blocks : l.counts.blocks + M.blocks_in (statements_of (map F.plain_statement (drop l.statement-index l.list))) ≡ l.fn.counts.blocks + M.blocks_in (statements_of (map F.plain_statement l.list));
}

abbrev pub invariant-build_branches-loop-branch : goal.invariant-build_branches-loop-branch
invariant-build_branches-loop-branch l = record {
  built :
      before_branches (map P.plain_block l.built.items) (M.branches_of (table_of l.tables) (open_of l.loops) l.counts.statements l.counts.blocks (branches_of (map F.plain_block (drop l.branch-index l.branches))))
      ≡ M.branches_of (table_of l.tables) (open_of l.loops) l.fn.counts.statements l.fn.counts.blocks (branches_of (map F.plain_block l.branches));
  statements : l.counts.statements + M.stmts_among (branches_of (map F.plain_block (drop l.branch-index l.branches))) ≡ l.fn.counts.statements + M.stmts_among (branches_of (map F.plain_block l.branches));
  blocks : l.counts.blocks + M.blocks_among (branches_of (map F.plain_block (drop l.branch-index l.branches))) ≡ l.fn.counts.blocks + M.blocks_among (branches_of (map F.plain_block l.branches));
}
