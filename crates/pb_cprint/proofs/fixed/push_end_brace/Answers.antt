use Rattle.pb_cprint.specs.Framed.{end_brace}
use Rattle.pb_cprint.proofs.fixed.push_end_brace.Goals as goal

pub returns : goal.returns
unfolding end_brace
returns c = c.in_ok-extend_from_slice.ensures.items
