use Rattle.pb_cprint.specs.Framed.{end_written}
use Rattle.pb_cprint.proofs.fixed.push_finish.Goals as goal

pub returns : goal.returns
unfolding end_written
returns c = c.in_ok-extend_from_slice.ensures.items
