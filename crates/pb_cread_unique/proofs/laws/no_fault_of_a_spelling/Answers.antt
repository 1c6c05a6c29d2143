use Rattle.pb_cread_unique.proofs.laws.no_fault_of_a_spelling.Goals as goal
use Rattle.pb_cread_unique.proofs.Faults.{no_fault}

pub returns : goal.returns
returns c = no_fault
