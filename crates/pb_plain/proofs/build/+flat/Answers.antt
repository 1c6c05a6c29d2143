use Rattle.std.proofs.Common.{length, arith, refl}
use Rattle.pb_core_language.specs.declared.tree.CoreBlock.{out-CoreBlock}
use Rattle.pb_core_language.specs.Plain.{plain_block, plain_stmt}
use Rattle.pb_plain.specs.Loops.{ids_of}
use Rattle.pb_plain.specs.View.{view, view_branches}
use Rattle.pb_plain.proofs.BranchSteps.{branch_step, block_step, block_start, branch_start}
use Rattle.pb_plain.proofs.Plains.{choice_done}
use Rattle.pb_plain.proofs.Smalls.{small_low, small_high, few_loops, all_small, all_small_branches}
use Rattle.pb_plain.proofs.build.+flat.Goals as goal

pub flat_stmt-returns-after-loop-left-2 : goal.flat_stmt-returns-after-loop-left-2
flat_stmt-returns-after-loop-left-2 t c =
    choice_done c.args.site.now.roles.now c.args.site.now.n (ids_of c.args.opens.now) c.args.i.now (plain_stmt c.args.stmt.now).mark c.args.stmt.now
    c.in-Choice.kernel c.in-Choice.at c.in-Choice.branches c.loop-left-2.left
    _ _ (view_branches c.loop-left-2.built) _ (view c.args.rest) c.choice.result c.loop-left-2.invariant.kept c.in-Choice.is c.loop-left-2-test.false
    c.origin_at-origin.ensures c.chooser_of-chooser.ensures c.loop-left-2.invariant.built c.choice.ensures

pub flat_stmt-loop-left-2-preserved : goal.flat_stmt-loop-left-2-preserved
flat_stmt-loop-left-2-preserved t c = record {
  size = omega (arith, c.loop-left-2.invariant.size);
  kept = c.loop-left-2.invariant.kept;
  small = c.loop-left-2.invariant.small;
  built =
      branch_step c.args.site.now.roles.now c.args.site.now.n (ids_of c.args.opens.now) c.args.i.now c.in-Choice.branches.items c.loop-left-2.left c.index-block.result.now
      (view c.in_ok-first-in-Choice.first) (view_branches c.loop-left-2.built) (view_branches c.in_ok-built-in-Choice.built)
      c.loop-left-2-test.true c.loop-left-2.invariant.size c.index-block.ensures c.in_ok-first-in-Choice.ensures c.loop-left-2.invariant.built c.in_ok-built-in-Choice.ensures;
}

pub flat_block-loop-left-init : goal.flat_block-loop-left-init
flat_block-loop-left-init t c = record {
  size = omega (arith, c.len-left.ensures, (out-CoreBlock c.args.block.now).list.ok.0);
  small = all_small c.args.block.now (length (ids_of c.args.opens.now)) c.requires.small;
  built =
      block_start c.args.site.now.roles.now c.args.site.now.n (ids_of c.args.opens.now) c.args.i.now (out-CoreBlock c.args.block.now).list.items c.len-left.result (view c.args.rest)
      (omega (arith, c.len-left.ensures, (out-CoreBlock c.args.block.now).list.ok.0));
}

pub flat_stmt-loop-left-2-init : goal.flat_stmt-loop-left-2-init
flat_stmt-loop-left-2-init t c = record {
  size = omega (arith, c.len-left-in-Choice.ensures);
  kept = refl;
  small = all_small_branches c.args.stmt.now c.in-Choice.kernel c.in-Choice.at c.in-Choice.branches (length (ids_of c.args.opens.now)) c.in-Choice.is c.requires.small;
  built =
      branch_start c.args.site.now.roles.now c.args.site.now.n (ids_of c.args.opens.now) c.args.i.now c.in-Choice.branches.items c.len-left-in-Choice.result
      (view_branches c.no_branches-built.result) (omega (arith, c.len-left-in-Choice.ensures)) c.no_branches-built.ensures;
}

pub flat_block-loop-left-preserved : goal.flat_block-loop-left-preserved
flat_block-loop-left-preserved t c = record {
  size = omega (arith, c.loop-left.invariant.size);
  small = c.loop-left.invariant.small;
  built =
      block_step c.args.site.now.roles.now c.args.site.now.n (ids_of c.args.opens.now) c.args.i.now (out-CoreBlock c.args.block.now).list.items c.loop-left.left c.index.result.now
      (view c.args.rest) (view c.loop-left.built) (view c.in_ok-built.built)
      c.loop-left-test.true c.loop-left.invariant.size c.index.ensures c.loop-left.invariant.built c.in_ok-built.ensures;
}

pub flat_stmt-turns-requires-clause-low : goal.flat_stmt-turns-requires-clause-low
flat_stmt-turns-requires-clause-low t c =
    small_low c.args.stmt.now c.in-Foreach.low c.in-Foreach.high c.in-Foreach.items (length (ids_of c.args.opens.now)) c.in-Foreach.is c.requires.small

pub flat_stmt-turns-requires-clause-high : goal.flat_stmt-turns-requires-clause-high
flat_stmt-turns-requires-clause-high t c =
    small_high c.args.stmt.now c.in-Foreach.low c.in-Foreach.high c.in-Foreach.items (length (ids_of c.args.opens.now)) c.in-Foreach.is c.requires.small

pub flat_stmt-between-requires : goal.flat_stmt-between-requires
flat_stmt-between-requires t c = few_loops c.args.stmt.now c.in-Again.id (length (ids_of c.args.opens.now)) c.in-Again.is c.requires.small
