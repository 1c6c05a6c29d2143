use Rattle.pb_project_piece.proofs.Items.{ItemsSoFar}
use Rattle.pb_project_piece.proofs.item.items_of.Given as goal

abbrev pub invariant-loop-stmt : goal.invariant-loop-stmt
invariant-loop-stmt l = ItemsSoFar l.setting.range l.setting.roles l.setting.whole.now l.over l.fixed l.stmt-items l.stmt-index l.list.items
