use Rattle.std.proofs.Common.{sym, ◌∙◌}
use Rattle.pb_cread.proofs.frame.read_frame.Goals as goal

pub take_row-requires : goal.take_row-requires
take_row-requires c = record { left = sym c.is_done.ensures ∙ c.loop-alloc-test.true; reader = c.loop-alloc.invariant.reader }

pub returns-in-Err-clause-fault : goal.returns-in-Err-clause-fault
returns-in-Err-clause-fault c = c.in-Err.ensures.fault c.args.lines.now.rest.now c.loop-alloc.invariant.read
