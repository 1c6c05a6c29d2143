use Rattle.pb_shape_ranks.proofs.rounds.Goals as goal
use Rattle.pb_shape_ranks.proofs.Relayed as R
use Rattle.pb_shape_ranks.proofs.RelayedMade as M

pub returns-clause-shape : goal.returns-clause-shape
returns-clause-shape c = R.rounds_shape

pub returns-clause-runs : goal.returns-clause-runs
returns-clause-runs c = M.rounds_run c.ranks_are_numbered.ensures.numbered c.ranks_are_numbered.ensures.totalled
