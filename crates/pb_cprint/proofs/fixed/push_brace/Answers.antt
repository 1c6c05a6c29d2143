use Rattle.pb_cprint.specs.Framed.{brace}
use Rattle.pb_cprint.proofs.fixed.push_brace.Goals as goal

pub returns : goal.returns
unfolding brace
returns c = c.in_ok-extend_from_slice.ensures.items
