use Rattle.pb_compile_verdict_laws.proofs.Files as files
use Rattle.pb_compile_verdict_laws.proofs.laws.accepted_has_no_fault.Goals as goal

pub returns : goal.returns
returns c = files.accepted_has_no_fault
