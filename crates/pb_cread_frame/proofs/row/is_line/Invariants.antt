use Rattle.std.proofs.Common.{◌≡◌, drop}
use Rattle.pb_cread_frame.specs.Rows.{is_line}
use Rattle.pb_cread_frame.proofs.row.is_line.Given as goal

abbrev pub invariant-loop-at : goal.invariant-loop-at
invariant-loop-at l = is_line (drop l.at l.line) ≡ is_line l.line
