use Rattle.pb_shape_straight.proofs.straight.Goals as goal
use Rattle.pb_shape_straight.proofs.Pieces.{straight_passes}

pub returns : goal.returns
returns c = straight_passes c.ranks_are_numbered.ensures.numbered c.ranks_are_numbered.ensures.totalled
