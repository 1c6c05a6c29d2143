use Rattle.pb_sched.proofs.Once.{once}
use Rattle.pb_sched.proofs.laws.one_outcome.Goals as goal

pub returns : goal.returns
returns c = once
