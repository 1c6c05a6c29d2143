use Rattle.pb_cprint.specs.Framed.{start_written}
use Rattle.pb_cprint.proofs.fixed.push_start.Goals as goal

pub returns : goal.returns
unfolding start_written
returns c = c.in_ok-extend_from_slice.ensures.items
