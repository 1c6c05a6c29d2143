use Rattle.std.proofs.Common.{◌≡◌, ◌++◌, map, drop}
use Rattle.pb_core_language.specs.Plain.{plain_block, plain_stmt, block_of, branches_of}
use Rattle.pb_core_language.specs.Cuts.{block_cuts, branches_cuts}
use Rattle.pb_rules.specs.CutLists.{lin_of}
use Rattle.pb_rules.proofs.cuts.+cut_walk.Given as goal

abbrev pub invariant-add_block-loop-statement : goal.invariant-add_block-loop-statement
invariant-add_block-loop-statement l =
    map lin_of l.out.items ++ block_cuts l.over (block_of (map plain_stmt (drop l.statement-index l.statement-items)))
    ≡ map lin_of l.fn.out.items ++ block_cuts l.over (plain_block l.block).block

abbrev pub invariant-add_branches-loop-branch : goal.invariant-add_branches-loop-branch
invariant-add_branches-loop-branch l =
    map lin_of l.out.items ++ branches_cuts l.over (branches_of (map plain_block (drop l.branch-index l.branches)))
    ≡ map lin_of l.fn.out.items ++ branches_cuts l.over (branches_of (map plain_block l.branches))
