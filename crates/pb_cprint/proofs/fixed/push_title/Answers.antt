use Rattle.pb_cprint.specs.Framed.{title}
use Rattle.pb_cprint.proofs.fixed.push_title.Goals as goal

pub returns : goal.returns
unfolding title
returns c = c.in_ok-extend_from_slice.ensures.items
