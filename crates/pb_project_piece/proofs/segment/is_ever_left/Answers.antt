use Rattle.std.proofs.Common.{sym, subst}
use Rattle.pb_project_piece.specs.Segments.{AreOthers}
use Rattle.pb_project_piece.proofs.Found.{left_there}
use Rattle.pb_project_piece.proofs.segment.is_ever_left.Goals as goal

pub returns : goal.returns
returns c =
    left_there c.args.setting.now.range c.args.setting.now.whole.now c.args.over c.args.segment.role c.args.segment.off c.args.less.now c.deref.result.now c.in_ok-there.there
    (subst (AreOthers c.args.over c.args.segment.role c.args.segment.off c.args.less.now) (sym c.deref.ensures.value) c.in_ok-areas.ensures) c.in_ok-there.ensures
