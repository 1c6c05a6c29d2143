use Rattle.pb_compile.proofs.Printed.{printed}
use Rattle.pb_compile.proofs.printing.text_of.Goals as goal

pub returns : goal.returns
returns c = printed _ _ c.print_c.result c.in_ok-bodies.ensures.prelude c.in_ok-bodies.ensures.list c.print_c.ensures
