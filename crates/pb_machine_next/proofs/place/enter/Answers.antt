use Rattle.pb_machine_next.proofs.Plains.{stepped_best, stepped_none}
use Rattle.pb_machine_next.proofs.place.enter.Goals as goal

pub returns-then-at-list-clause-best : goal.returns-then-at-list-clause-best
returns-then-at-list-clause-best c = stepped_best _ c.args.step _ _ _ _ _ c.if-at-list.true c.index-list-at.is c.at_or-best.ensures c.round_or.ensures

pub returns-else-at-list-clause-best : goal.returns-else-at-list-clause-best
returns-else-at-list-clause-best c = stepped_none _ c.args.step _ _ c.if-at-list.false
