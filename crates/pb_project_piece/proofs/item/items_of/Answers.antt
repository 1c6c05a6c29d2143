use Rattle.pb_project_piece.proofs.Items.{items_start, items_step, items_done}
use Rattle.pb_project_piece.proofs.item.items_of.Goals as goal

pub loop-stmt-init : goal.loop-stmt-init
loop-stmt-init c = items_start c.args.setting.now.range c.args.setting.now.roles c.args.setting.now.whole.now c.args.over c.args.fixed.now c.deref-stmt-items.result.now c.new-list.result.items c.new-list.ensures.items

pub loop-stmt-preserved : goal.loop-stmt-preserved
loop-stmt-preserved c =
    items_step c.args.setting.now.range c.args.setting.now.roles c.args.setting.now.whole.now c.args.over c.args.fixed.now c.deref-stmt-items.result.now c.loop-stmt.stmt-index c.stmt-item.result c.loop-stmt.list.items c.put_item.new.out.items
    c.loop-stmt-test.true c.stmt-item.is c.in_ok-put_item.ensures c.loop-stmt.invariant

pub returns : goal.returns
returns c =
    items_done c.args.setting.now.range c.args.setting.now.roles c.args.setting.now.whole.now c.args.over c.args.fixed.now c.args.items.now c.deref-stmt-items.result.now c.loop-stmt.stmt-index c.loop-stmt.list.items c.deref-stmt-items.ensures.value c.loop-stmt-test.false c.loop-stmt.invariant
