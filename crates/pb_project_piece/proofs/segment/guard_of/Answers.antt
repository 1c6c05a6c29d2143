use Rattle.pb_project_piece.proofs.Segments.{guard_is, guard_is_made}
use Rattle.pb_project_piece.proofs.segment.guard_of.Goals as goal

pub returns-clause-holds : goal.returns-clause-holds
returns-clause-holds c = guard_is c.args.segment.role c.args.segment.off c.args.over c.moved.result c.moved-2.result c.moved.ensures c.moved-2.ensures

pub returns-clause-made : goal.returns-clause-made
returns-clause-made c = guard_is_made c.args.segment.role c.args.segment.off c.args.over c.moved.result c.moved-2.result c.moved.ensures c.moved-2.ensures
