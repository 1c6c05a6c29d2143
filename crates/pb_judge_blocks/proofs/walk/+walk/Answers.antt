use Rattle.std.proofs.Common.{◌≤◌, length, map, Ok, Err, refl, sym, ap, subst, ◌∙◌, rules, of_z, to_z, to_z-of_z, SFits, w64, arith}
use Rattle.pb_affine.specs.Values.{count_from}
use Rattle.pb_core_language.specs.Plain.{plain_block, plain_stmt, block_of, branches_of}
use Rattle.pb_core_language.proofs.Plains.{plain_list}
use Rattle.pb_judge_lists.specs.Places.{left_of}
use Rattle.pb_judge_blocks.specs.Steps.{Takes}
use Rattle.pb_judge_blocks.proofs.Numbering.{zero_turn, zero_near}
use Rattle.pb_judge_blocks.proofs.Blocks.{passes, stops, block_begins, block_goes, block_stops, block_ends, turns_go, turns_stop, turns_end}
use Rattle.pb_judge_blocks.proofs.Rounds.{goes_back, goes_elsewhere, round_begins, round_again, round_endless, round_ends}
use Rattle.pb_judge_blocks.proofs.Statements.{message_stmt, run_stmt, again_stmt, loop_stmt, barrier_stmt, allreduce_stmt, broadcast_stmt, reduce_stmt, foreach_stmt}
use Rattle.pb_judge_blocks.proofs.Choices.{choice_differs, choice_past, choice_result}
use Rattle.pb_judge_blocks.proofs.walk.+walk.Goals as goal

pub block-loop-stmt-init : goal.block-loop-stmt-init
block-loop-stmt-init t c = record {
  walked =
      block_begins c.args.site.now c.args.i.now (plain_block c.args.block.now).block (left_of c.args.lists.now) c.deref-stmt-items.result.now
      (ap (λ l. block_of (map plain_stmt l)) c.deref-stmt-items.ensures.value ∙ sym (plain_list c.args.block.now));
  log = refl;
}

pub block-loop-stmt-preserved : goal.block-loop-stmt-preserved
block-loop-stmt-preserved t c = record {
  walked =
      block_goes c.args.site.now c.args.i.now (plain_block c.args.block.now).block (left_of c.args.lists.now) c.deref-stmt-items.result.now c.loop-stmt.stmt-index c.stmt-item.result (left_of c.loop-stmt.lists) (left_of c.statement.new.lists)
      c.loop-stmt-test.true c.stmt-item.is c.loop-stmt.invariant.walked c.in_ok-flow.flow (passes c.in_ok-flow.flow c.is_passed.result c.is_passed.ensures c.if-not-is_passed.false) c.in_ok-flow.ensures.walked;
  log = c.statement.ensures.log ∙ c.loop-stmt.invariant.log;
}

pub block-returns-then-not-is_passed-clause-walked : goal.block-returns-then-not-is_passed-clause-walked
block-returns-then-not-is_passed-clause-walked t c =
    block_stops c.args.site.now c.args.i.now (plain_block c.args.block.now).block (left_of c.args.lists.now) c.deref-stmt-items.result.now c.loop-stmt.stmt-index c.stmt-item.result (left_of c.loop-stmt.lists) (left_of c.statement.new.lists)
    c.loop-stmt-test.true c.stmt-item.is c.loop-stmt.invariant.walked c.in_ok-flow.flow (stops c.in_ok-flow.flow c.is_passed.result c.is_passed.ensures c.if-not-is_passed.true) c.in_ok-flow.ensures.walked

pub block-returns-clause-walked : goal.block-returns-clause-walked
block-returns-clause-walked t c =
    block_ends c.args.site.now c.args.i.now (plain_block c.args.block.now).block (left_of c.args.lists.now) c.deref-stmt-items.result.now c.loop-stmt.stmt-index (left_of c.loop-stmt.lists) c.loop-stmt-test.false c.loop-stmt.invariant.walked

pub turns-turns-preserved : goal.turns-turns-preserved
turns-turns-preserved t c =
    let fits : SFits w64 c.next-turn.result = search rules in
    record {
      walked =
          turns_go c.args.site.now (count_from c.args.many.now c.args.first.now) (plain_block c.args.items.now).block (left_of c.args.lists.now) (left_of c.turns.lists) (left_of c.block.new.lists) c.turns.left (to_z w64 c.turns.turn-bits) c.turns-test.true
          c.turns.invariant.walked c.in_ok-flow.flow (to_z w64 (of_z w64 c.next-turn.result)) (passes c.in_ok-flow.flow c.is_passed.result c.is_passed.ensures c.if-not-is_passed.false) (λ turn. to_z-of_z fits ∙ c.next-turn.ensures turn) c.in_ok-flow.ensures.walked;
      log = c.block.ensures.log ∙ c.turns.invariant.log;
    }

pub turns-returns-then-not-is_passed-clause-walked : goal.turns-returns-then-not-is_passed-clause-walked
turns-returns-then-not-is_passed-clause-walked t c =
    turns_stop c.args.site.now (count_from c.args.many.now c.args.first.now) (plain_block c.args.items.now).block (left_of c.args.lists.now) (left_of c.turns.lists) (left_of c.block.new.lists) c.turns.left (to_z w64 c.turns.turn-bits) c.turns-test.true
    c.turns.invariant.walked c.in_ok-flow.flow (stops c.in_ok-flow.flow c.is_passed.result c.is_passed.ensures c.if-not-is_passed.true) c.in_ok-flow.ensures.walked

pub turns-returns-clause-walked : goal.turns-returns-clause-walked
turns-returns-clause-walked t c =
    turns_end c.args.site.now (count_from c.args.many.now c.args.first.now) (plain_block c.args.items.now).block (left_of c.args.lists.now) (left_of c.turns.lists) c.turns.left (to_z w64 c.turns.turn-bits) c.turns-test.false c.turns.invariant.walked

pub rounds-rounds-init : goal.rounds-rounds-init
rounds-rounds-init t c = record {
  walked =
      round_begins c.args.site.now c.args.i.now c.args.id (plain_block c.args.body.now).block (left_of c.args.lists.now) c.used-used.result c.in_ok-flow.flow (left_of c.block.new.lists) c.used-used.ensures.used c.in_ok-flow.ensures.walked;
  within = c.used-used.ensures.within;
  log = c.block.ensures.log;
}

pub rounds-rounds-preserved : goal.rounds-rounds-preserved
rounds-rounds-preserved t c = record {
  walked =
      round_again c.args.site.now c.args.i.now c.args.id (plain_block c.args.body.now).block (left_of c.args.lists.now) c.rounds.used c.rounds.flow (left_of c.rounds.lists)
      (goes_back c.rounds.flow c.args.id c.is_back.result c.is_back.ensures c.rounds-test.true) c.rounds.invariant.walked c.used-now.result c.in_ok-flow-2.flow (left_of c.block-in-rounds.new.lists) c.used-now.ensures.used
      c.in_ok-flow-2.ensures.walked;
  within = subst (λ l. c.used-now.result ≤ length l) c.rounds.invariant.log c.used-now.ensures.within;
  log = c.block-in-rounds.ensures.log ∙ c.rounds.invariant.log;
}

pub rounds-returns-then-now-used-clause-walked : goal.rounds-returns-then-now-used-clause-walked
rounds-returns-then-now-used-clause-walked t c =
    round_endless c.args.site.now c.args.i.now c.args.id (plain_block c.args.body.now).block (left_of c.args.lists.now) c.rounds.used c.rounds.flow (left_of c.rounds.lists)
    (goes_back c.rounds.flow c.args.id c.is_back.result c.is_back.ensures c.rounds-test.true) c.rounds.invariant.walked c.used-now.result c.used-now.ensures.used c.if-now-used.true

pub rounds-returns-clause-walked : goal.rounds-returns-clause-walked
rounds-returns-clause-walked t c =
    round_ends c.args.site.now c.args.i.now c.args.id (plain_block c.args.body.now).block (left_of c.args.lists.now) c.rounds.used c.rounds.flow (left_of c.rounds.lists)
    (goes_elsewhere c.rounds.flow c.args.id c.is_back.result c.is_back.ensures c.rounds-test.false) c.rounds.invariant.walked

pub statement-returns-in-Message-clause-walked : goal.statement-returns-in-Message-clause-walked
statement-returns-in-Message-clause-walked t c =
    message_stmt c.args.site.now c.args.i.now c.args.stmt.now (left_of c.args.lists.now) (left_of c.send.new.lists) c.in-Message.label c.in-Message.from c.in-Message.to c.send.result c.in-Message.is c.send.ensures.walked

pub statement-returns-in-Run-clause-walked : goal.statement-returns-in-Run-clause-walked
statement-returns-in-Run-clause-walked t c =
    run_stmt c.args.site.now c.args.i.now c.args.stmt.now (left_of c.args.lists.now) (left_of c.run.new.lists) c.in-Run.kernel c.in-Run.at c.run.result c.in-Run.is c.run.ensures.walked

pub statement-returns-in-Foreach-clause-walked : goal.statement-returns-in-Foreach-clause-walked
statement-returns-in-Foreach-clause-walked t c =
    let fits_low : SFits w64 c.value-low.result = search rules in
    let fits_high : SFits w64 c.value-high.result = search rules in
    let counted = simp to_z-of_z at c.count.ensures in
    let walked = simp to_z-of_z at c.turns.ensures.walked in
    foreach_stmt c.args.site.now c.args.i.now c.args.stmt.now c.in-Foreach.low c.in-Foreach.high c.in-Foreach.items c.value-low.result c.value-high.result c.count.result (left_of c.args.lists.now) (left_of c.turns.new.lists) c.turns.result
    c.in-Foreach.is (λ near. c.value-low.ensures.value near zero_turn) (λ near. c.value-low.ensures.turn near zero_near) (λ near. c.value-high.ensures.value near zero_turn) (λ near. c.value-high.ensures.turn near zero_near)
    (λ near. counted (c.value-low.ensures.turn near zero_near) (c.value-high.ensures.turn near zero_near)) walked

pub statement-returns-in-Loop-clause-walked : goal.statement-returns-in-Loop-clause-walked
statement-returns-in-Loop-clause-walked t c =
    loop_stmt c.args.site.now c.args.i.now c.args.stmt.now (left_of c.args.lists.now) (left_of c.rounds.new.lists) c.rounds.result c.in-Loop.id c.in-Loop.body c.in-Loop.is c.rounds.ensures.walked

pub statement-returns-in-Again-clause-walked : goal.statement-returns-in-Again-clause-walked
statement-returns-in-Again-clause-walked t c = again_stmt c.args.site.now c.args.i.now c.args.stmt.now (left_of c.args.lists.now) (left_of c.args.lists.now) c.in-Again.id c.in-Again.is refl

pub statement-returns-in-Barrier-clause-walked : goal.statement-returns-in-Barrier-clause-walked
statement-returns-in-Barrier-clause-walked t c = barrier_stmt c.args.site.now c.args.i.now c.args.stmt.now (left_of c.args.lists.now) (left_of c.barrier.new.lists) c.barrier.result c.in-Barrier.is c.barrier.ensures.walked

pub statement-returns-in-Broadcast-clause-walked : goal.statement-returns-in-Broadcast-clause-walked
statement-returns-in-Broadcast-clause-walked t c =
    broadcast_stmt c.args.site.now c.args.i.now c.args.stmt.now (left_of c.args.lists.now) (left_of c.broadcast.new.lists) c.broadcast.result c.in-Broadcast.label c.in-Broadcast.root c.in-Broadcast.is c.broadcast.ensures.walked

pub statement-returns-in-Reduce-clause-walked : goal.statement-returns-in-Reduce-clause-walked
statement-returns-in-Reduce-clause-walked t c =
    reduce_stmt c.args.site.now c.args.i.now c.args.stmt.now (left_of c.args.lists.now) (left_of c.reduce.new.lists) c.reduce.result c.in-Reduce.label c.in-Reduce.op c.in-Reduce.root c.in-Reduce.is c.reduce.ensures.walked

pub statement-returns-in-Allreduce-clause-walked : goal.statement-returns-in-Allreduce-clause-walked
statement-returns-in-Allreduce-clause-walked t c =
    allreduce_stmt c.args.site.now c.args.i.now c.args.stmt.now (left_of c.args.lists.now) (left_of c.allreduce.new.lists) c.allreduce.result c.in-Allreduce.label c.in-Allreduce.op c.in-Allreduce.is c.allreduce.ensures.walked

pub statement-returns-in-Err-clause-walked : goal.statement-returns-in-Err-clause-walked
statement-returns-in-Err-clause-walked t c =
    let site = c.args.site.now in
    let old = left_of c.args.lists.now in
    let new = left_of c.take.new.lists in
    choice_differs site c.args.i.now c.args.stmt.now c.in-Choice.kernel c.in-Choice.at c.in-Choice.branches c.in-Choice.is old new c.in-Err.difference c.differing.result
    (subst (λ bs. Takes site c.args.i.now c.in-Choice.kernel c.in-Choice.at (branches_of (map plain_block bs)) old (Err c.in-Err.difference) new) c.deref.ensures.value c.in-Err.ensures.takes) c.differing.ensures

pub statement-returns-then-branch-len-clause-walked : goal.statement-returns-then-branch-len-clause-walked
statement-returns-then-branch-len-clause-walked t c =
    let site = c.args.site.now in
    let old = left_of c.args.lists.now in
    let mid = left_of c.take.new.lists in
    choice_result site c.args.i.now c.args.stmt.now c.in-Choice.kernel c.in-Choice.at c.in-Choice.branches c.in-Choice.is old mid (left_of c.block.new.lists) c.in-Ok.branch c.index-taken.result.now c.block.result
    (omega (arith, c.if-branch-len.true, c.len.ensures, c.in-Choice.branches.ok.0)) c.index-taken.ensures
    (subst (λ bs. Takes site c.args.i.now c.in-Choice.kernel c.in-Choice.at (branches_of (map plain_block bs)) old (Ok c.in-Ok.branch) mid) c.deref.ensures.value c.in-Ok.ensures.takes) c.block.ensures.walked

pub statement-returns-else-branch-len-clause-walked : goal.statement-returns-else-branch-len-clause-walked
statement-returns-else-branch-len-clause-walked t c =
    let site = c.args.site.now in
    let old = left_of c.args.lists.now in
    let mid = left_of c.take.new.lists in
    choice_past site c.args.i.now c.args.stmt.now c.in-Choice.kernel c.in-Choice.at c.in-Choice.branches c.in-Choice.is old mid c.in-Ok.branch (omega (arith, c.if-branch-len.false, c.len.ensures, c.in-Choice.branches.ok.0))
    (subst (λ bs. Takes site c.args.i.now c.in-Choice.kernel c.in-Choice.at (branches_of (map plain_block bs)) old (Ok c.in-Ok.branch) mid) c.deref.ensures.value c.in-Ok.ensures.takes)
