use Rattle.pb_kernels.proofs.Lines.{counted_first, counted_some, counted_ends}
use Rattle.pb_kernels.proofs.read.line_len.Goals as goal

pub returns-clause-first : goal.returns-clause-first
returns-clause-first c = rw c.first_len.ensures (counted_first c.args.bytes.now c.requires)

pub returns-clause-some : goal.returns-clause-some
returns-clause-some c = rw c.first_len.ensures (counted_some c.args.bytes.now c.requires)

pub returns-clause-ends : goal.returns-clause-ends
returns-clause-ends c = rw c.first_len.ensures (counted_ends c.args.bytes.now)
