use Rattle.std.proofs.Common.{◌≡◌, map, drop}
use Rattle.pb_core_language.specs.Plain.{plain_block, plain_stmt, block_of, branches_of}
use Rattle.pb_core_language.specs.Sound.{is_block, are_branches}
use Rattle.pb_core_sound.specs.View.{ids_of, rows_of}
use Rattle.pb_core_sound.proofs.block.+block.Given as goal

abbrev pub invariant-is_block-loop-stmt : goal.invariant-is_block-loop-stmt
invariant-is_block-loop-stmt l =
    is_block (rows_of l.rows) l.varies (ids_of l.opens) (block_of (map plain_stmt (drop l.stmt-index l.stmt-items)))
    ≡ is_block (rows_of l.rows) l.varies (ids_of l.opens) (plain_block l.block).block

abbrev pub invariant-are_branches-loop-branch : goal.invariant-are_branches-loop-branch
invariant-are_branches-loop-branch l =
    are_branches (rows_of l.rows) (ids_of l.opens) (branches_of (map plain_block (drop l.branch-index l.branches)))
    ≡ are_branches (rows_of l.rows) (ids_of l.opens) (branches_of (map plain_block l.branches))
