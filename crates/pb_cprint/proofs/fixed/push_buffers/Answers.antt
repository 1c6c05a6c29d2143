use Rattle.pb_cprint.specs.Framed.{buffers_written}
use Rattle.pb_cprint.proofs.fixed.push_buffers.Goals as goal

pub returns : goal.returns
unfolding buffers_written
returns c = c.in_ok-extend_from_slice.ensures.items
