use Rattle.pb_cprint.specs.Framed.{zeros_written}
use Rattle.pb_cprint.proofs.fixed.push_zeros.Goals as goal

pub returns : goal.returns
unfolding zeros_written
returns c = c.in_ok-extend_from_slice.ensures.items
