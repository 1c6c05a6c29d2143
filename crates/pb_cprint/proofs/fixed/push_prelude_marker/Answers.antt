use Rattle.pb_cprint.specs.Framed.{prelude_marker}
use Rattle.pb_cprint.proofs.fixed.push_prelude_marker.Goals as goal

pub returns : goal.returns
unfolding prelude_marker
returns c = c.in_ok-extend_from_slice.ensures.items
