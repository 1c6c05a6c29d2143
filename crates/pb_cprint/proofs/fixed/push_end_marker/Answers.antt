use Rattle.pb_cprint.specs.Framed.{end_marker}
use Rattle.pb_cprint.proofs.fixed.push_end_marker.Goals as goal

pub returns : goal.returns
unfolding end_marker
returns c = c.in_ok-extend_from_slice.ensures.items
