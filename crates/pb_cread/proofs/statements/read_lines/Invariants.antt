use Rattle.std.proofs.Common.{◌≡◌, ℕ, List, length}
use Rattle.pb_local.specs.Tree.{program_of}
use Rattle.pb_cread_frame.specs.Reading.{Read}
use Rattle.pb_cread_statements.specs.Views.{state_of}
use Rattle.pb_cread.specs.Reached.{InMain}
use Rattle.pb_cread.proofs.statements.read_lines.Given as goal

abbrev pub invariant-loop-line : goal.invariant-loop-line
invariant-loop-line l = record {
  main : (text : List ℕ) (r : Read) → InMain text l.initial.lines.rest.now l.initial.lines.line r (program_of l.local) (state_of l.initial.reader) → InMain text l.lines.rest.now l.lines.line r (program_of l.local) (state_of l.reader);
  line : l.place.line ≡ l.lines.line;
  col : l.place.col ≡ 1;
}

abbrev pub decreases-loop-line : goal.decreases-loop-line
decreases-loop-line l = length l.lines.rest.now
