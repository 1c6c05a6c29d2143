use Rattle.pb_project_piece.proofs.Found.{some_other_is}
use Rattle.pb_project_piece.proofs.Segments.{met_segment}
use Rattle.pb_project_piece.proofs.segment.some_other.Goals as goal

pub returns : goal.returns
returns c =
    some_other_is c.args.whole.now c.args.less.now c.args.over c.end_of-end.result c.args.segment.role c.args.segment.off c.met_area-met.result c.clipped-near.result c.in_ok-some.some
    (λ lo hi n role x. met_segment c.end_of-end.result c.args.segment.role c.args.segment.off lo hi n role x c.end_of-end.ensures.role c.end_of-end.ensures.base c.end_of-end.ensures.off) c.end_of-end.ensures.off
    c.met_area-met.ensures c.clipped-near.ensures.is c.in_ok-some.ensures
