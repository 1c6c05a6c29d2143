use Rattle.pb_project_piece.proofs.Found.{left_seen}
use Rattle.pb_project_piece.proofs.segment.is_soon_left.Goals as goal

pub returns : goal.returns
returns c =
    left_seen c.args.setting.now.range c.args.setting.now.whole.now c.args.over c.args.segment.role c.args.segment.off c.args.less.now c.in_ok-some.some c.in_ok-seen.seen c.in_ok-some.ensures c.in_ok-seen.ensures
