use Rattle.pb_cprint.specs.Framed.{seat_end}
use Rattle.pb_cprint.proofs.fixed.push_seat_end.Goals as goal

pub returns : goal.returns
unfolding seat_end
returns c = c.in_ok-extend_from_slice.ensures.items
