use Rattle.pb_shape_reached.proofs.text_is_reached.Goals as goal
use Rattle.pb_shape_reached.proofs.Whole.{text_reached}

pub returns : goal.returns
returns c = text_reached c.ranks_are_numbered.ensures.numbered c.ranks_are_numbered.ensures.totalled
