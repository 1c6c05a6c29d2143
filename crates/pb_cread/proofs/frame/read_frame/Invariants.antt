use Rattle.std.proofs.Common.{length}
use Rattle.pb_cread_frame.specs.Views.{state_of, IsReader}
use Rattle.pb_cread.specs.Reached.{InFrame}
use Rattle.pb_cread.proofs.frame.read_frame.Given as goal

abbrev pub invariant-loop-alloc : goal.invariant-loop-alloc
invariant-loop-alloc l = record {
  read : InFrame l.initial.lines.rest.now l.lines.rest.now l.lines.line (state_of l.reader);
  reader : IsReader l.reader;
}

abbrev pub decreases-loop-alloc : goal.decreases-loop-alloc
decreases-loop-alloc l = length l.lines.rest.now
