use Rattle.pb_shape_ranks.proofs.text_ranks.Goals as goal
use Rattle.pb_shape_ranks.proofs.Theorem as T

pub returns : goal.returns
returns c = T.text_ranks c.ranks_are_numbered.ensures.numbered c.ranks_are_numbered.ensures.totalled
