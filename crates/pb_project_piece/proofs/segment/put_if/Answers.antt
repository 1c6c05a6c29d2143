use Rattle.std.proofs.Common.{refl}
use Rattle.pb_shape.specs.Segments.{is_at_offset}
use Rattle.pb_local.specs.Tree.{plain}
use Rattle.pb_project_piece.proofs.Segments.{put_one, put_none}
use Rattle.pb_project_piece.proofs.segment.put_if.Goals as goal

pub returns-in_ok-push : goal.returns-in_ok-push
returns-in_ok-push c =
    put_one c.is_of.result (is_at_offset c.args.segment.role c.args.segment.off c.args.end) (plain c.args.stmt) c.args.out.now.items c.push.new.self.items c.args.stmt c.is_of.ensures c.if-is_of.true refl c.in_ok-push.ensures.items

pub returns-else-is_of : goal.returns-else-is_of
returns-else-is_of c =
    put_none c.is_of.result (is_at_offset c.args.segment.role c.args.segment.off c.args.end) (plain c.args.stmt) c.args.out.now.items c.is_of.ensures c.if-is_of.false
