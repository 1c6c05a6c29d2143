use Rattle.pb_local.specs.Tree.{program_of}
use Rattle.std.proofs.Common.{rules, refl}
use Rattle.pb_local.proofs.Layouts.{else_put, choice_put, when_put, for_put, loop_put, part_put, statements_step, branches_step}
use Rattle.pb_local.proofs.Lengths.{inside, room, still}
use Rattle.pb_local.proofs.layout.+push.Goals as goal

pub push_else-returns : goal.push_else-returns
push_else-returns t c =
    else_put (program_of c.args.local.now) c.args.depth c.args.other.now c.deeper.result c.args.out.now.items c.push_word-2.new.out.items c.push_all.new.out.items c.push_word-3.new.out.items c.push_word-3.result
    c.deeper.ensures c.if-is_empty.ensures c.in_ok-push_word.ensures c.in_ok-push_all.ensures c.push_word-3.ensures

pub push_stmt-returns-after-loop-number : goal.push_stmt-returns-after-loop-number
push_stmt-returns-after-loop-number t c =
    let it = c.in-Choice in
    choice_put (program_of c.args.local.now) c.args.depth c.args.stmt.now it.who it.kernel it.relays it.from it.tests it.branches
    c.deref-in-Choice.result.now c.deref-in-Choice-2.result.now c.deref-branch-items.result.now c.loop-number.number c.args.out.now.items c.push_choice_lines.new.out.items c.loop-number.out.items c.push_word-in-Choice.new.out.items c.push_word-in-Choice.result
    it.is c.deref-in-Choice.ensures.value c.deref-in-Choice-2.ensures.value c.deref-branch-items.ensures.value c.in_ok-push_choice_lines-in-Choice.ensures c.loop-number-test.false c.loop-number.invariant.text c.push_word-in-Choice.ensures

pub push_all-loop-stmt-init : goal.push_all-loop-stmt-init
push_all-loop-stmt-init t c = record { text = refl; long = c.requires }

pub push_all-loop-stmt-preserved : goal.push_all-loop-stmt-preserved
push_all-loop-stmt-preserved t c = record {
  text = statements_step _ _ _ _ _ _ _ _ c.loop-stmt-test.true c.stmt-item.is c.in_ok-push_stmt.ensures c.loop-stmt.invariant.text;
  long = still _ _ _ _ c.loop-stmt.invariant.long c.in_ok-push_stmt.ensures;
}

pub push_else-deeper-requires : goal.push_else-deeper-requires
push_else-deeper-requires t c = room _ _ _ _ c.requires c.in_ok-push_word.ensures

pub push_else-push_all-requires : goal.push_else-push_all-requires
push_else-push_all-requires t c = (search rules, inside _ _ _ _ _ c.deeper.ensures c.requires c.in_ok-push_word.ensures)

pub push_part-deeper-requires : goal.push_part-deeper-requires
push_part-deeper-requires t c = room _ _ _ _ c.requires c.in_ok-push_branch.ensures

pub push_part-push_all-requires : goal.push_part-push_all-requires
push_part-push_all-requires t c = (search rules, inside _ _ _ _ _ c.deeper.ensures c.requires c.in_ok-push_branch.ensures)

pub push_part-returns : goal.push_part-returns
push_part-returns t c = part_put (program_of c.args.local.now) _ _ _ c.args.branch.now _ _ _ c.push_all.result c.deeper.ensures c.in_ok-push_branch.ensures c.push_all.ensures

pub push_stmt-deeper-requires : goal.push_stmt-deeper-requires
push_stmt-deeper-requires t c = room _ _ _ _ c.requires c.in_ok-push_when-in-If.ensures

pub push_stmt-returns-in_ok-push_all-in-If : goal.push_stmt-returns-in_ok-push_all-in-If
push_stmt-returns-in_ok-push_all-in-If t c =
    let it = c.in-If in
    when_put (program_of c.args.local.now) _ _ c.args.stmt.now it.guards _ it.first it.other c.deref.result.now c.deref-in-If.result.now _ _ _ _ c.push_else.result
    it.is c.list.ensures c.deref.ensures.value c.deref-in-If.ensures.value c.deeper.ensures c.in_ok-push_when-in-If.ensures c.in_ok-push_all-in-If.ensures c.push_else.ensures

pub push_stmt-deeper-requires-in-For : goal.push_stmt-deeper-requires-in-For
push_stmt-deeper-requires-in-For t c = room _ _ _ _ c.requires c.in_ok-push_for-in-For.ensures

pub push_stmt-returns-in_ok-push_all-in-For : goal.push_stmt-returns-in_ok-push_all-in-For
push_stmt-returns-in_ok-push_all-in-For t c =
    let it = c.in-For in
    for_put (program_of c.args.local.now) _ _ c.args.stmt.now it.low it.high it.body c.deref-in-For.result.now _ _ _ _ c.push_word.result
    it.is c.deref-in-For.ensures.value c.deeper-in-For.ensures c.in_ok-push_for-in-For.ensures c.in_ok-push_all-in-For.ensures c.push_word.ensures

pub push_stmt-deeper-requires-in-Loop : goal.push_stmt-deeper-requires-in-Loop
push_stmt-deeper-requires-in-Loop t c = room _ _ _ _ c.requires c.in_ok-push_loop-in-Loop.ensures

pub push_stmt-returns-in_ok-push_all-in-Loop : goal.push_stmt-returns-in_ok-push_all-in-Loop
push_stmt-returns-in_ok-push_all-in-Loop t c =
    let it = c.in-Loop in
    loop_put (program_of c.args.local.now) _ _ c.args.stmt.now it.id it.body c.deref-in-Loop.result.now _ _ _ _ c.push_word-in-Loop.result
    it.is c.deref-in-Loop.ensures.value c.deeper-in-Loop.ensures c.in_ok-push_loop-in-Loop.ensures c.in_ok-push_all-in-Loop.ensures c.push_word-in-Loop.ensures

pub push_stmt-loop-number-init : goal.push_stmt-loop-number-init
push_stmt-loop-number-init t c = record { text = refl; long = still _ _ _ _ c.requires c.in_ok-push_choice_lines-in-Choice.ensures }

pub push_stmt-loop-number-preserved : goal.push_stmt-loop-number-preserved
push_stmt-loop-number-preserved t c = record {
  text = branches_step _ _ _ _ _ _ _ _ _ c.loop-number-test.true c.branch-item.is c.deref-in-loop-number.ensures.value c.in_ok-push_part-in-Choice.ensures c.loop-number.invariant.text;
  long = still _ _ _ _ c.loop-number.invariant.long c.in_ok-push_part-in-Choice.ensures;
}
