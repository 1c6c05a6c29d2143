use Rattle.pb_core.specs.Building.{table_of, open_of}
use Rattle.pb_core.proofs.Built.{list_step, list_done, stmts_step, blocks_step, branches_step, branches_done, stmts_among_step, blocks_among_step}
use Rattle.pb_core.proofs.build.+build.Goals as goal

pub build_list-loop-statement-preserved : goal.build_list-loop-statement-preserved
build_list-loop-statement-preserved t c =
    let i = c.loop-statement.statement-index in
    let xs = c.args.list.now in
    let x = c.statement-item.result in
    let lt = c.loop-statement-test.true in
    let is = c.statement-item.is in
    let made = c.in_ok-one.ensures in
    let so_far = c.loop-statement.invariant in
    record {
      built = list_step (table_of c.args.tables.now) (open_of c.args.loops.now) xs i x c.loop-statement.built.items c.push.new.self.items c.in_ok-one.one _ _ _ _ _ lt is c.in_ok-push.ensures.items made.stmt made.statements made.blocks so_far.built;
      statements = stmts_step xs i x _ _ _ lt is made.statements so_far.statements;
      blocks = blocks_step xs i x _ _ _ lt is made.blocks so_far.blocks;
    }

pub build_list-returns-clause-list : goal.build_list-returns-clause-list
build_list-returns-clause-list t c =
    list_done (table_of c.args.tables.now) (open_of c.args.loops.now) c.args.list.now c.loop-statement.statement-index c.loop-statement.built.items _ _ _ c.loop-statement-test.false c.loop-statement.invariant.built

pub build_branches-loop-branch-preserved : goal.build_branches-loop-branch-preserved
build_branches-loop-branch-preserved t c =
    let i = c.loop-branch.branch-index in
    let xs = c.args.branches.now in
    let x = c.branch-item.result in
    let lt = c.loop-branch-test.true in
    let is = c.branch-item.is in
    let made = c.in_ok-one.ensures in
    let so_far = c.loop-branch.invariant in
    record {
      built = branches_step (table_of c.args.tables.now) (open_of c.args.loops.now) xs i x c.loop-branch.built.items c.push.new.self.items c.in_ok-one.one _ _ _ _ _ lt is c.in_ok-push.ensures.items made.block made.statements made.blocks so_far.built;
      statements = stmts_among_step xs i x _ _ _ lt is made.statements so_far.statements;
      blocks = blocks_among_step xs i x _ _ _ lt is made.blocks so_far.blocks;
    }

pub build_branches-returns-clause-list : goal.build_branches-returns-clause-list
build_branches-returns-clause-list t c =
    branches_done (table_of c.args.tables.now) (open_of c.args.loops.now) c.args.branches.now c.loop-branch.branch-index c.loop-branch.built.items _ _ _ c.loop-branch-test.false c.loop-branch.invariant.built
