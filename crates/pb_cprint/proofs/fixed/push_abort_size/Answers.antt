use Rattle.pb_cprint.specs.Framed.{abort_size}
use Rattle.pb_cprint.proofs.fixed.push_abort_size.Goals as goal

pub returns : goal.returns
unfolding abort_size
returns c = c.in_ok-extend_from_slice.ensures.items
