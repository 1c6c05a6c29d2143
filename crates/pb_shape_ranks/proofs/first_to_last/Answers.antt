use Rattle.pb_shape_ranks.proofs.first_to_last.Goals as goal
use Rattle.pb_shape_ranks.proofs.Rows as R

pub returns-clause-shape : goal.returns-clause-shape
returns-clause-shape c = R.shape

pub returns-clause-runs : goal.returns-clause-runs
returns-clause-runs c = R.runs c.ranks_are_numbered.ensures.numbered c.ranks_are_numbered.ensures.totalled
