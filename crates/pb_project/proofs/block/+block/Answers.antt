use Rattle.std.proofs.Common.{◌≡◌, sym, subst, ap, ◌∙◌}
use Rattle.pb_core_language.specs.Plain.{plain_stmt}
use Rattle.pb_project.specs.Blocks.{known}
use Rattle.pb_project.proofs.Sequences.{block_step, block_done, block_stops, parts_step, parts_done}
use Rattle.pb_core_language.specs.Tree as T
use Rattle.pb_core_language.specs.Plain.{plain_block, branches_of}
use Rattle.std.proofs.Common.{map}
use Rattle.pb_local.specs.Tree.{nothing, more, plain, plain_all}
use Rattle.pb_project_piece.specs.Ones.{only_when}
use Rattle.pb_project_piece.specs.Pieces.{IsPieceOf}
use Rattle.pb_project_piece.specs.Ranked.{IsThere}
use Rattle.pb_project_piece.proofs.Added.{added_one, added_none, added_as}
use Rattle.pb_project.specs.Blocks.{IsStmtOf, parts_now}
use Rattle.pb_project.specs.Learning.{AreTests, AreRelays}
use Rattle.pb_project.proofs.Looping.{loop_there, loop_gone}
use Rattle.std.proofs.lemmas.Result.{on_ok_weaker}
use Rattle.pb_core_language.proofs.Plains.{plain_choice}
use Rattle.pb_project.specs.Takers.{AreTakers}
use Rattle.pb_project.proofs.Choosing.{choice_there, choice_gone}
use Rattle.pb_project.proofs.Straight.{kind_of, straight_is, straight_by}
use Rattle.pb_project.proofs.block.+block.Goals as goal

pub block_of-returns-in-Some : goal.block_of-returns-in-Some
block_of-returns-in-Some t c =
    block_stops (known c.args.setting.now.range c.args.setting.now.roles c.args.setting.now.whole.now c.args.around.now.held.now c.args.around.now.numbers.now) c.args.block.now c.deref-stmt-items.result.now c.loop-stmt.stmt-index c.stmt-item.result c.in-Some.id
    c.args.count.now c.loop-stmt.count c.loop-stmt.out.items c.push.new.self.items c.again.result c.deref-stmt-items.ensures.value c.loop-stmt-test.true c.stmt-item.is
    (sym c.loop_of_continue.ensures ∙ c.in-Some.is) c.in_ok-push.ensures.items c.again.ensures c.loop-stmt.invariant

pub block_of-loop-stmt-preserved : goal.block_of-loop-stmt-preserved
block_of-loop-stmt-preserved t c =
    block_step (known c.args.setting.now.range c.args.setting.now.roles c.args.setting.now.whole.now c.args.around.now.held.now c.args.around.now.numbers.now) c.deref-stmt-items.result.now c.loop-stmt.stmt-index c.stmt-item.result
    c.args.count.now c.loop-stmt.count c.put_stmt.new.count c.loop-stmt.out.items c.put_stmt.new.out.items c.loop-stmt-test.true c.stmt-item.is
    (sym c.loop_of_continue.ensures ∙ c.in_default.is) c.in_ok-put_stmt.ensures c.loop-stmt.invariant

pub block_of-returns : goal.block_of-returns
block_of-returns t c =
    block_done (known c.args.setting.now.range c.args.setting.now.roles c.args.setting.now.whole.now c.args.around.now.held.now c.args.around.now.numbers.now) c.args.block.now c.deref-stmt-items.result.now c.loop-stmt.stmt-index
    c.args.count.now c.loop-stmt.count c.loop-stmt.out.items c.deref-stmt-items.ensures.value c.loop-stmt-test.false c.loop-stmt.invariant

pub parts_of-loop-branch-preserved : goal.parts_of-loop-branch-preserved
parts_of-loop-branch-preserved t c =
    parts_step (known c.args.setting.now.range c.args.setting.now.roles c.args.setting.now.whole.now c.args.around.now.held.now c.args.around.now.numbers.now) c.args.branches.now c.loop-branch.branch-index c.branch-item.result
    c.args.count.now c.loop-branch.count c.block_of.new.count c.loop-branch.parts.items c.push.new.self.items c.in_ok-part.part c.loop-branch-test.true c.branch-item.is
    c.in_ok-push.ensures.items c.in_ok-part.ensures c.loop-branch.invariant

pub parts_of-returns : goal.parts_of-returns
parts_of-returns t c =
    parts_done (known c.args.setting.now.range c.args.setting.now.roles c.args.setting.now.whole.now c.args.around.now.held.now c.args.around.now.numbers.now) c.args.branches.now c.loop-branch.branch-index
    c.args.count.now c.loop-branch.count c.loop-branch.parts.items c.loop-branch-test.false c.loop-branch.invariant

pub put_loop-returns-in_ok-push : goal.put_loop-returns-in_ok-push
put_loop-returns-in_ok-push t c = λ m taken.
    let k = known c.args.setting.now.range c.args.setting.now.roles c.args.setting.now.whole.now c.args.around.now.held.now c.args.around.now.numbers.now in
    let body = plain_block c.args.body.now in
    added_one (IsStmtOf k c.args.count.now c.loop_of.new.count m (T.loop c.args.id body.mark body.block)) c.args.out.now.items c.push.new.self.items c.when.result (only_when c.in_ok-guards.guards (more (plain c.in_ok-inner.inner) nothing))
    c.in_ok-push.ensures.items
    (c.when.ensures ∙ ap (λ l. only_when c.in_ok-guards.guards (plain_all l)) c.in_ok-first.ensures)
    (loop_there k c.args.count.now c.loop_of.new.count m body.mark c.args.id body.block c.args.takers.items c.in_ok-guards.guards (plain c.in_ok-inner.inner)
    (subst (IsThere k.range k.whole c.args.takers.items) c.if-there.true (rw c.deref.ensures.value at c.in_ok-there.ensures))
    (record { is = rw c.deref-then-there.ensures.value at c.in_ok-guards.ensures.hold; each = c.in_ok-guards.ensures.each }) c.in_ok-inner.ensures taken)

pub put_loop-returns-else-there : goal.put_loop-returns-else-there
put_loop-returns-else-there t c = λ m taken.
    let k = known c.args.setting.now.range c.args.setting.now.roles c.args.setting.now.whole.now c.args.around.now.held.now c.args.around.now.numbers.now in
    let body = plain_block c.args.body.now in
    added_none (IsStmtOf k c.args.count.now c.args.count.now m (T.loop c.args.id body.mark body.block)) c.args.out.now.items
    (loop_gone k c.args.count.now m body.mark c.args.id body.block c.args.takers.items (subst (IsThere k.range k.whole c.args.takers.items) c.if-there.false (rw c.deref.ensures.value at c.in_ok-there.ensures)) taken)

pub put_choice-returns-in_ok-push : goal.put_choice-returns-in_ok-push
put_choice-returns-in_ok-push t c = λ m taken.
    let k = known c.args.setting.now.range c.args.setting.now.roles c.args.setting.now.whole.now c.args.around.now.held.now c.args.around.now.numbers.now in
    let bs = branches_of (map plain_block c.args.branches.now) in
    added_one (IsStmtOf k c.args.count.now c.choice_of.new.count m (T.choice c.args.asked.kernel c.args.asked.at bs)) c.args.out.now.items c.push.new.self.items c.when.result (only_when c.in_ok-guards.guards (plain_all c.in_ok-first.first.items))
    c.in_ok-push.ensures.items c.when.ensures
    (choice_there k c.args.count.now c.choice_of.new.count m c.args.asked.kernel c.args.asked.at bs (plain_all c.in_ok-first.first.items) c.in_ok-first.ensures c.args.takers.now c.in_ok-guards.guards
    (subst (IsThere k.range k.whole c.args.takers.now) c.if-there.true c.in_ok-there.ensures) (record { is = c.in_ok-guards.ensures.hold; each = c.in_ok-guards.ensures.each }) taken)

pub put_choice-returns-else-there : goal.put_choice-returns-else-there
put_choice-returns-else-there t c = λ m taken.
    let k = known c.args.setting.now.range c.args.setting.now.roles c.args.setting.now.whole.now c.args.around.now.held.now c.args.around.now.numbers.now in
    let bs = branches_of (map plain_block c.args.branches.now) in
    added_none (IsStmtOf k c.args.count.now c.args.count.now m (T.choice c.args.asked.kernel c.args.asked.at bs)) c.args.out.now.items
    (choice_gone k c.args.count.now m c.args.asked.kernel c.args.asked.at bs c.args.takers.now (subst (IsThere k.range k.whole c.args.takers.now) c.if-there.false c.in_ok-there.ensures) taken)

pub put_stmt-returns-in_ok-takers-in-Choice : goal.put_stmt-returns-in_ok-takers-in-Choice
put_stmt-returns-in_ok-takers-in-Choice t c =
    let k = known c.args.setting.now.range c.args.setting.now.roles c.args.setting.now.whole.now c.args.around.now.held.now c.args.around.now.numbers.now in
    let s = plain_stmt c.args.stmt.now in
    let tree = T.choice c.in-Choice.kernel c.in-Choice.at (branches_of (map plain_block c.deref.result.now)) in
    let is : s.stmt ≡ tree = plain_choice c.args.stmt.now c.in-Choice.kernel c.in-Choice.at c.in-Choice.branches c.in-Choice.is ∙ ap (λ z. T.choice c.in-Choice.kernel c.in-Choice.at (branches_of (map plain_block z))) (sym c.deref.ensures.value) in
    on_ok_weaker c.put_choice.result (λ d goes. kind_of k c.args.count.now c.put_choice.new.count s.mark s.stmt tree c.args.out.now.items c.put_choice.new.out.items is
    (d s.mark (subst (λ z. AreTakers c.args.setting.now.whole.now c.args.around.now.held.now s.mark tree z) (sym c.deref-in-Choice.ensures.value)
    (subst (λ z. AreTakers c.args.setting.now.whole.now c.args.around.now.held.now s.mark z c.in_ok-takers-in-Choice.takers.items) is c.in_ok-takers-in-Choice.ensures)))) c.put_choice.ensures

pub put_stmt-returns-in-Message : goal.put_stmt-returns-in-Message
put_stmt-returns-in-Message t c =
    let k = known c.args.setting.now.range c.args.setting.now.roles c.args.setting.now.whole.now c.args.around.now.held.now c.args.around.now.numbers.now in
    let s = plain_stmt c.args.stmt.now in
    on_ok_weaker c.put_piece.result (λ d goes. added_as (IsPieceOf k.range k.roles k.whole s.stmt) (IsStmtOf k c.args.count.now c.args.count.now s.mark s.stmt) c.args.out.now.items c.put_piece.new.out.items
    (λ piece. straight_is k c.args.count.now s.mark s.stmt piece (straight_by c.args.stmt.now c.in-Message.is goes)) d) c.put_piece.ensures

pub choice_of-returns : goal.choice_of-returns
choice_of-returns t c =
    let k = known c.args.setting.now.range c.args.setting.now.roles c.args.setting.now.whole.now c.args.around.now.held.now c.args.around.now.numbers.now in
    let tests = c.in_ok-tests.tests.items in
    let relays = c.in_ok-relays.relays.items in
    record {
      found = c.in_ok-found.found.items;
      relays = relays;
      tests = tests;
      parts = parts_now c.in_ok-parts.parts.items;
      is = c.in_ok-list.ensures;
      found_are = record { is = c.in_ok-found.ensures };
      tests_are = subst (λ f. AreTests k.range k.roles k.whole f tests) c.deref.ensures.value (record { is = c.in_ok-tests.ensures.is; each = c.in_ok-tests.ensures.each; ascend = c.in_ok-tests.ensures.ascend; held = c.in_ok-tests.ensures.held });
      relays_are = subst (λ f. AreRelays k.range k.roles k.whole c.args.asked.at f tests relays) c.deref-2.ensures.value
          (subst (λ ts. AreRelays k.range k.roles k.whole c.args.asked.at c.deref-2.result.now ts relays) c.deref-3.ensures.value (record { is = c.in_ok-relays.ensures.is; each = c.in_ok-relays.ensures.each; told = c.in_ok-relays.ensures.told; called = c.in_ok-relays.ensures.called }));
      parts_are = c.in_ok-parts.ensures;
    }
