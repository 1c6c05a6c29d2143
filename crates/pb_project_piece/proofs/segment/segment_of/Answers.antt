use Rattle.pb_project_piece.proofs.Segments.{segment_made}
use Rattle.pb_project_piece.proofs.segment.segment_of.Goals as goal

pub returns : goal.returns
returns c =
    segment_made c.args.over c.args.segment.role c.args.segment.off _ c.guard_of.result c.in_ok-guards.guards c.in_ok-first.first.items c.when.result c.in_ok-guards.ensures c.guard_of.ensures.holds c.guard_of.ensures.made c.in_ok-first.ensures c.when.ensures
