use Rattle.pb_local.proofs.Indents.{indent_goes_on}
use Rattle.pb_local.proofs.pieces.push_indent.Goals as goal

pub loop-preserved : goal.loop-preserved
loop-preserved c = indent_goes_on _ _ _ _ _ c.loop-test.true c.loop.invariant c.in_ok-extend_from_slice.ensures.items
