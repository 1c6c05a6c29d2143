use Rattle.std.proofs.Common.{sym, ap, ◌∙◌}
use Rattle.pb_core_file_rules.specs.Lowering.{first}
use Rattle.pb_core_file_rules.specs.Visiting.{is_met, wrong_behind}
use Rattle.pb_core_file_rules.proofs.Growing.{fewer, still_few, right_on, wrong_here}
use Rattle.pb_core_file_rules.proofs.Loops.{drop_next, goes_on, ends}
use Rattle.pb_core_file_rules.proofs.wrong.first_wrong_of.Goals as goal

pub add-requires-clause-few : goal.add-requires-clause-few
add-requires-clause-few c = fewer _ _ _ _ c.loop-one.invariant.few c.loop-one-test.true c.requires

pub returns-then-not-branch : goal.returns-then-not-branch
returns-then-not-branch c =
    let rows = c.loop-one.table.rows.items in
    let m = c.one-item.result in
    sym (wrong_here rows m _ _ c.in_ok-add.ensures.right c.if-not-branch.true) ∙ sym (ap (λ ms. first (wrong_behind rows ms)) (drop_next c.args.list.now c.loop-one.one-index m c.loop-one-test.true c.one-item.is)) ∙ c.loop-one.invariant.right

pub loop-one-preserved : goal.loop-one-preserved
loop-one-preserved c =
    let rows = c.loop-one.table.rows.items in
    let new = c.add.new.self.rows.items in
    let i = c.loop-one.one-index in
    let m = c.one-item.result in
    let grown = c.in_ok-add.ensures.rows in
    record {
      names = c.in_ok-add.ensures.names;
      few = still_few (is_met m.spot.name rows) rows new m i grown c.loop-one.invariant.few;
      right = goes_on (λ rs ms. first (wrong_behind rs ms)) c.args.list.now i m rows new _ c.loop-one-test.true c.one-item.is (right_on rows new m _ _ c.in_ok-add.ensures.right c.if-not-branch.false grown) c.loop-one.invariant.right;
    }

pub returns : goal.returns
returns c = ends (λ rs ms. first (wrong_behind rs ms)) c.args.list.now c.loop-one.one-index c.loop-one.table.rows.items _ c.loop-one-test.false c.loop-one.invariant.right
