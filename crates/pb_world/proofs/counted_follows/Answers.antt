use Rattle.std.proofs.Common.{zero, arith}
use Rattle.pb_world.proofs.counted_follows.Goals as goal
use Rattle.pb_world.proofs.Counted.{counts}

pub returns : goal.returns
returns g c = λ bound M allowed x s ends f. counts bound M allowed zero (omega arith) f
