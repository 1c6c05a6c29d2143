use Rattle.std.proofs.Common.{◌≡◌, [], take, drop}
use Rattle.pb_local.specs.Tree.{program_of}
use Rattle.pb_types_fit.specs.Faults.{first_wrong, constant_fault}
use Rattle.pb_types_fit.proofs.constants.constants_fault.Given as goal

abbrev pub invariant-loop-at : goal.invariant-loop-at
invariant-loop-at l =
    first_wrong (constant_fault (program_of l.local)) (take l.at l.constants) (drop l.at l.constants) ≡ first_wrong (constant_fault (program_of l.local)) [] l.constants
