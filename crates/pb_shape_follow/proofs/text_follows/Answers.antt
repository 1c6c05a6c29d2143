use Rattle.pb_shape_follow.proofs.text_follows.Goals as goal
use Rattle.pb_shape_follow.proofs.Starts.{rank_follows}

pub returns : goal.returns
returns c = rank_follows c.ranks_are_numbered.ensures.numbered c.ranks_are_numbered.ensures.totalled
