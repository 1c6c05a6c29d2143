use Rattle.std.proofs.Common.{map, drop}
use Rattle.pb_strips_syntax.specs.Columns.{numbers}
use Rattle.pb_strips_syntax.specs.Strips.{strips_of, branches_of}
use Rattle.pb_strips_syntax.specs.Plain.{plain_statement, plain_block}
use Rattle.pb_strips_flatten.specs.Parts.{part_in, part_for, part_among}
use Rattle.pb_strips_flatten.specs.Ends.{written, offered, behind}
use Rattle.pb_strips_flatten.proofs.Walking.{SoFar}
use Rattle.pb_strips_flatten.proofs.walk.+flat.Given as goal

abbrev pub invariant-put_block-loop-statement : goal.invariant-put_block-loop-statement
invariant-put_block-loop-statement l =
    SoFar (written l.fn.out) (part_in (plain_block l.block).list l.round.value) (written l.out) (part_in (strips_of (map plain_statement (drop l.statement-index l.statement-items))) l.round.value)

abbrev pub invariant-put_columns-loop-column : goal.invariant-put_columns-loop-column
invariant-put_columns-loop-column l =
    SoFar (written l.fn.out) (part_for (numbers l.low l.high) (plain_block l.body).list) (written l.out) (part_for (numbers l.column l.high) (plain_block l.body).list)

abbrev pub invariant-inner_branches-loop-branch : goal.invariant-inner_branches-loop-branch
invariant-inner_branches-loop-branch l =
    SoFar (behind l.fn.count.n) (part_among (branches_of (map plain_block l.branches)) l.round.value) (offered l.offer) (part_among (branches_of (map plain_block (drop l.branch-index l.branches))) l.round.value)
