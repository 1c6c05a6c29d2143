-- The number with which the program ends.
use Rattle.std.specs.Prelude.{ℕ}
use Rattle.pb_cli_status.specs.declared.status.Status.{Status}
use Rattle.pb_cli_status.specs.declared.status.Status.TheVariants.{Done, Refused, Usage, ReadFault, WriteFault, Limit, NoMemory, Kernel, Text, Schedule, Stuck, Turns, OutOfRange, CallFault, StripFault, CostFault, NotCovered, Log}

abbrev pub code_of : Status → ℕ
code_of Done = 0
code_of Refused = 1
code_of Usage = 2
code_of ReadFault = 3
code_of WriteFault = 4
code_of Limit = 5
code_of NoMemory = 6
code_of Kernel = 7
code_of Text = 8
code_of Schedule = 9
code_of Stuck = 10
code_of Turns = 11
code_of OutOfRange = 12
code_of CallFault = 14
code_of StripFault = 15
code_of CostFault = 16
code_of NotCovered = 17
code_of Log = 18
