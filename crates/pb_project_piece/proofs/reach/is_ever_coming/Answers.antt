use Rattle.std.proofs.Common.{sym, subst}
use Rattle.pb_project_piece.specs.Comers.{AreComers}
use Rattle.pb_project_piece.proofs.Found.{coming_there}
use Rattle.pb_project_piece.proofs.reach.is_ever_coming.Goals as goal

pub returns : goal.returns
returns c =
    coming_there c.args.setting.now.range c.args.setting.now.whole.now c.args.over c.args.fixed.now c.args.end c.deref.result.now c.in_ok-there.there
    (subst (AreComers c.args.over c.args.fixed.now c.args.end) (sym c.deref.ensures.value) c.in_ok-areas.ensures) c.in_ok-there.ensures
