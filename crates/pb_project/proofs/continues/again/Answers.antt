use Rattle.std.proofs.Common.{ap, ◌∙◌}
use Rattle.pb_local.specs.Tree as L
use Rattle.pb_shape.specs.Loops.{number_at}
use Rattle.pb_project_piece.proofs.Codes.{again_plain}
use Rattle.pb_project.proofs.GoesBack.{number_is}
use Rattle.pb_project.proofs.continues.again.Goals as goal

pub returns : goal.returns
returns c =
    again_plain c.number_at.result
    ∙ ap L.again (c.number_at.ensures ∙ number_is c.args.around.now.numbers.now c.count_inside-place.result ∙ ap (number_at c.args.around.now.numbers.now) c.count_inside-place.ensures)
