use Rattle.pb_kernels_laws.proofs.laws.own_kernels.Goals as goal
use Rattle.pb_kernels_laws.proofs.Whole.{own_kernels}

pub returns : goal.returns
returns c = own_kernels
