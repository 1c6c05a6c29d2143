use Rattle.std.proofs.Common.{◌++◌, ◌+◌, ◌∙◌, ap, sym, drop, refl, rules}
use Rattle.pb_local.specs.Tree.{program_of, plain_all, parts_of}
use Rattle.pb_cprint.specs.Written.{is_last}
use Rattle.pb_cprint.proofs.Blocks.{not_shorter, plains}
use Rattle.pb_cprint.proofs.Lengths.{inside, room}
use Rattle.pb_typed_print.specs.Written.{part_text}
use Rattle.pb_typed_print.proofs.Appended.{parts_text}
use Rattle.pb_typed_print.proofs.Blocks.{for_put, loop_put, when_put, other_put, broadcast_put, reduce_put, choice_put, branch_round, all_round, part_put}
use Rattle.pb_typed_print.proofs.statements.+push.Goals as goal

pub push_other-returns : goal.push_other-returns
push_other-returns t c =
    other_put (program_of c.args.local.now) c.args.types.now c.args.depth c.args.other.now c.deeper.result c.args.out.now.items c.push_word-2.new.out.items c.push_all.new.out.items c.push_word-3.new.out.items c.push_word-3.result
    c.deeper.ensures.deeper c.if-is_empty.ensures c.in_ok-push_word.ensures c.in_ok-push_all.ensures c.push_word-3.ensures

pub push_stmt-loop-number-preserved : goal.push_stmt-loop-number-preserved
push_stmt-loop-number-preserved t c =
    let p = program_of c.args.local.now in let ts = c.args.types.now in let it = c.loop-number in
    record {
      text = branch_round p ts c.args.depth it.number c.deref-branch-items.result.now c.branch-item.result c.deref-in-loop-number-2.result.now c.is_last-last.result it.out.items c.push_part.new.out.items
          (c.push_choice.new.out.items ++ parts_text p ts c.args.depth 0 (parts_of (plains c.deref-branch-items.result.now)))
          c.loop-number-test.true c.branch-item.is c.deref-in-loop-number-2.ensures.value (c.is_last-last.ensures ∙ ap (λ l. is_last (parts_of (plains (drop (it.number + 1) l)))) (c.deref-in-loop-number.ensures.value ∙ sym c.deref-branch-items.ensures.value)) c.in_ok-push_part-in-Choice.ensures it.invariant.text;
      long = not_shorter (c.args.depth + 2) it.out.items c.push_part.new.out.items (part_text p ts c.args.depth it.number c.is_last-last.result (plain_all c.deref-in-loop-number-2.result.now)) c.in_ok-push_part-in-Choice.ensures it.invariant.long;
    }

pub push_stmt-returns-in_ok-push_all-in-If : goal.push_stmt-returns-in_ok-push_all-in-If
push_stmt-returns-in_ok-push_all-in-If t c =
    let it = c.in-If in
    when_put (program_of c.args.local.now) c.args.types.now c.args.depth c.deeper.result c.args.stmt.now it.guards c.list.result.now it.first it.other c.deref.result.now c.deref-in-If.result.now c.args.out.now.items c.push_if.new.out.items c.push_all.new.out.items c.push_other.new.out.items c.push_other.result
    it.is c.list.ensures c.deref.ensures.value c.deref-in-If.ensures.value c.deeper.ensures.deeper c.in_ok-push_if-in-If.ensures c.in_ok-push_all-in-If.ensures c.push_other.ensures

pub push_stmt-returns-in_ok-push_all-in-For : goal.push_stmt-returns-in_ok-push_all-in-For
push_stmt-returns-in_ok-push_all-in-For t c =
    let it = c.in-For in
    for_put (program_of c.args.local.now) c.args.types.now c.args.depth c.deeper-in-For.result c.args.stmt.now it.low it.high it.body c.deref-in-For.result.now c.args.out.now.items c.push_for.new.out.items c.push_all-in-For.new.out.items c.push_word.new.out.items c.push_word.result
    it.is c.deref-in-For.ensures.value c.deeper-in-For.ensures.deeper c.in_ok-push_for-in-For.ensures c.in_ok-push_all-in-For.ensures c.push_word.ensures

pub push_stmt-returns-in_ok-push_all-in-Loop : goal.push_stmt-returns-in_ok-push_all-in-Loop
push_stmt-returns-in_ok-push_all-in-Loop t c =
    let it = c.in-Loop in
    loop_put (program_of c.args.local.now) c.args.types.now c.args.depth c.deeper-in-Loop.result c.args.stmt.now it.id it.body c.deref-in-Loop.result.now c.args.out.now.items c.push_loop.new.out.items c.push_all-in-Loop.new.out.items c.push_word-in-Loop.new.out.items c.push_word-in-Loop.result
    it.is c.deref-in-Loop.ensures.value c.deeper-in-Loop.ensures.deeper c.in_ok-push_loop-in-Loop.ensures c.in_ok-push_all-in-Loop.ensures c.push_word-in-Loop.ensures

pub push_stmt-returns-after-loop-number : goal.push_stmt-returns-after-loop-number
push_stmt-returns-after-loop-number t c =
    let it = c.in-Choice in
    choice_put (program_of c.args.local.now) c.args.types.now c.args.depth c.args.stmt.now it.who it.kernel it.relays it.from it.tests it.branches c.len.result
    c.deref-in-Choice.result.now c.deref-in-Choice-2.result.now c.deref-branch-items.result.now c.loop-number.number c.args.out.now.items c.push_choice.new.out.items c.loop-number.out.items c.push_word-in-Choice.new.out.items c.push_word-in-Choice.result
    it.is (c.len.ensures ∙ it.branches.ok.0) c.deref-in-Choice.ensures.value c.deref-in-Choice-2.ensures.value c.deref-branch-items.ensures.value c.in_ok-push_choice-in-Choice.ensures c.loop-number-test.false c.loop-number.invariant.text c.push_word-in-Choice.ensures

pub push_all-loop-stmt-init : goal.push_all-loop-stmt-init
push_all-loop-stmt-init t c = record { text = refl; long = c.requires }

pub push_all-loop-stmt-preserved : goal.push_all-loop-stmt-preserved
push_all-loop-stmt-preserved t c = record {
  text = all_round _ _ _ _ _ _ _ _ _ c.loop-stmt-test.true c.stmt-item.is c.in_ok-push_stmt.ensures c.loop-stmt.invariant.text;
  long = not_shorter _ _ _ _ c.in_ok-push_stmt.ensures c.loop-stmt.invariant.long;
}

pub push_other-deeper-requires : goal.push_other-deeper-requires
push_other-deeper-requires t c = room _ _ _ _ c.requires c.in_ok-push_word.ensures

pub push_other-push_all-requires : goal.push_other-push_all-requires
push_other-push_all-requires t c = (search rules, inside _ _ _ _ _ c.deeper.ensures.deeper c.requires c.in_ok-push_word.ensures)

pub push_part-deeper-requires : goal.push_part-deeper-requires
push_part-deeper-requires t c = room _ _ _ _ c.requires c.in_ok-push_branch_open.ensures

pub push_part-push_all-requires : goal.push_part-push_all-requires
push_part-push_all-requires t c = (search rules, inside _ _ _ _ _ c.deeper.ensures.deeper c.requires c.in_ok-push_branch_open.ensures)

pub push_part-returns : goal.push_part-returns
push_part-returns t c =
    part_put (program_of c.args.local.now) c.args.types.now _ _ c.args.number c.args.is_last c.args.branch.now _ _ _ c.push_all.result c.deeper.ensures.deeper c.in_ok-push_branch_open.ensures c.push_all.ensures

pub push_stmt-deeper-requires : goal.push_stmt-deeper-requires
push_stmt-deeper-requires t c = room _ _ _ _ c.requires c.in_ok-push_if-in-If.ensures

pub push_stmt-deeper-requires-in-For : goal.push_stmt-deeper-requires-in-For
push_stmt-deeper-requires-in-For t c = room _ _ _ _ c.requires c.in_ok-push_for-in-For.ensures

pub push_stmt-deeper-requires-in-Loop : goal.push_stmt-deeper-requires-in-Loop
push_stmt-deeper-requires-in-Loop t c = room _ _ _ _ c.requires c.in_ok-push_loop-in-Loop.ensures

pub push_stmt-loop-number-init : goal.push_stmt-loop-number-init
push_stmt-loop-number-init t c = record { text = refl; long = not_shorter _ _ _ _ c.in_ok-push_choice-in-Choice.ensures c.requires }

pub push_stmt-returns-in-Broadcast : goal.push_stmt-returns-in-Broadcast
push_stmt-returns-in-Broadcast t c =
    broadcast_put (program_of c.args.local.now) c.args.types.now c.args.depth c.args.stmt.now c.in-Broadcast.label c.in-Broadcast.root c.args.out.now.items c.push_broadcast.new.out.items c.push_broadcast.result
    c.in-Broadcast.is c.push_broadcast.ensures

pub push_stmt-returns-in-Reduce : goal.push_stmt-returns-in-Reduce
push_stmt-returns-in-Reduce t c =
    reduce_put (program_of c.args.local.now) c.args.types.now c.args.depth c.args.stmt.now c.in-Reduce.label c.in-Reduce.op c.in-Reduce.root c.args.out.now.items c.push_reduce.new.out.items c.push_reduce.result
    c.in-Reduce.is c.push_reduce.ensures
