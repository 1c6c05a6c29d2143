use Rattle.pb_choice.proofs.EmptySteps.{tries_start, tries_step, tries_done}
use Rattle.pb_choice.proofs.empty.first_empty.Goals as goal

pub loop-area-init : goal.loop-area-init
loop-area-init c = tries_start c.args.range c.args.list.now c.number.result.n c.tried-best.result c.number.ensures.is c.tried-best.ensures

pub loop-area-preserved : goal.loop-area-preserved
loop-area-preserved c = tries_step c.args.range c.args.list.now c.loop-area.area-index _ c.loop-area.best c.tried_ends-best.result c.loop-area-test.true c.tried_ends-best.ensures c.loop-area.invariant

pub returns : goal.returns
returns c = tries_done c.args.range c.args.list.now c.loop-area.area-index c.loop-area.best c.loop-area-test.false c.loop-area.invariant
