use Rattle.std.proofs.Common.{ap, ◌∙◌, ◌&&◌}
use Rattle.pb_part_areas.specs.Areas.{have}
use Rattle.pb_project_piece.proofs.Loops.{runs_is}
use Rattle.pb_project_piece.proofs.foreach.is_run.Goals as goal

pub returns : goal.returns
returns c = λ b fixed.
    runs_is c.args.setting.now.range c.args.setting.now.whole.now c.args.over c.args.ends.now c.args.fixed.now c.in_ok-met.met.items c.deref-2.result.now b c.in_ok-there.there fixed c.in_ok-met.ensures
    (λ n role x. ap (λ l. have l n role x) c.deref-2.ensures.value ∙ c.in_ok-runners.ensures.is n role x ∙ ap (λ l. have c.args.fixed.now n role x && have l n role x) c.deref.ensures.value) c.in_ok-there.ensures
