use Rattle.pb_cread_small.proofs.Open as braces
use Rattle.pb_cread_small.proofs.laws.small_keeps_limits.Goals as goal

pub returns : goal.returns
returns c = braces.small_keeps_limits
