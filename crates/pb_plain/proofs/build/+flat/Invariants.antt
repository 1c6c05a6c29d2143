use Rattle.std.proofs.Common.{◌≡◌, ◌≤◌, true, length, map, drop}
use Rattle.std.specs.List.{All}
use Rattle.pb_core_language.specs.declared.tree.CoreBlock.{out-CoreBlock}
use Rattle.pb_core_language.specs.Plain.{plain_stmt, plain_block, block_of, branches_of}
use Rattle.pb_core_language.specs.FlatOf.{flat_block, flat_branches, for_each}
use Rattle.pb_plain.specs.Loops.{ids_of}
use Rattle.pb_plain.specs.Small.{is_small_stmt, is_small_block}
use Rattle.pb_plain.specs.View.{view, view_branches}
use Rattle.pb_plain.proofs.build.+flat.Given as goal

abbrev pub decreases-flat_block : goal.decreases-flat_block
decreases-flat_block l = goal.size-flat_block l

abbrev pub decreases-flat_stmt : goal.decreases-flat_stmt
decreases-flat_stmt l = goal.size-flat_stmt l

abbrev pub invariant-flat_block-loop-left : goal.invariant-flat_block-loop-left
invariant-flat_block-loop-left l = record {
  size : l.left ≤ length (out-CoreBlock l.block).list.items;
  small : All (λ s. is_small_stmt (length (ids_of l.opens)) (plain_stmt s).stmt ≡ true) (out-CoreBlock l.block).list.items;
  built : view l.built ≡ flat_block l.site.roles.now l.site.n (ids_of l.opens) l.i (block_of (map plain_stmt (drop l.left (out-CoreBlock l.block).list.items))) (view l.fn.rest);
}

abbrev pub decreases-flat_block-loop-left : goal.decreases-flat_block-loop-left
decreases-flat_block-loop-left l = l.left

abbrev pub invariant-flat_stmt-loop-left : goal.invariant-flat_stmt-loop-left
invariant-flat_stmt-loop-left l = record {
  size : l.left ≤ length l.numbers.items;
  built : view l.built ≡ for_each (drop l.left l.numbers.items) (λ x. flat_block l.site.roles.now l.site.n (ids_of l.opens) x (plain_block l.items).block) (view l.fn.rest);
}

abbrev pub decreases-flat_stmt-loop-left : goal.decreases-flat_stmt-loop-left
decreases-flat_stmt-loop-left l = l.left

abbrev pub invariant-flat_stmt-loop-left-2 : goal.invariant-flat_stmt-loop-left-2
invariant-flat_stmt-loop-left-2 l = record {
  size : l.left ≤ length l.branches.items;
  kept : view l.rest ≡ view l.fn.rest;
  small : All (λ b. is_small_block (length (ids_of l.opens)) (plain_block b).block ≡ true) l.branches.items;
  built : view_branches l.built ≡ flat_branches l.site.roles.now l.site.n (ids_of l.opens) l.i (branches_of (map plain_block (drop l.left l.branches.items)));
}

abbrev pub decreases-flat_stmt-loop-left-2 : goal.decreases-flat_stmt-loop-left-2
decreases-flat_stmt-loop-left-2 l = l.left
