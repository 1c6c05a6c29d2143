use Rattle.std.proofs.Common.{◌≡◌, [], take, drop}
use Rattle.pb_local.specs.Tree.{program_of}
use Rattle.pb_types_fit.specs.Faults.{first_wrong, row_fault}
use Rattle.pb_types_fit.proofs.labels.rows_fault.Given as goal

abbrev pub invariant-loop-at : goal.invariant-loop-at
invariant-loop-at l =
    first_wrong (row_fault (program_of l.local) l.constants) (take l.at l.rows) (drop l.at l.rows) ≡ first_wrong (row_fault (program_of l.local) l.constants) [] l.rows
