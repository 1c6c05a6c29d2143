use Rattle.pb_shape_straight.proofs.Ends.{ends_are_fine}
use Rattle.pb_shape_straight.proofs.ends_are_ranks.Goals as goal

pub returns : goal.returns
returns c = ends_are_fine
