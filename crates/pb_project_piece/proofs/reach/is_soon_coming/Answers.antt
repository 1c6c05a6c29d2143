use Rattle.pb_project_piece.proofs.Found.{coming_seen}
use Rattle.pb_project_piece.proofs.reach.is_soon_coming.Goals as goal

pub returns : goal.returns
returns c =
    coming_seen c.args.setting.now.range c.args.setting.now.whole.now c.args.over c.args.fixed.now c.args.end c.in_ok-some.some c.in_ok-seen.seen c.in_ok-some.ensures c.in_ok-seen.ensures
