use Rattle.pb_cli_laws.proofs.Schedules as schedules
use Rattle.pb_cli_laws.proofs.laws.schedule_has_no_fault.Goals as goal

pub returns : goal.returns
returns c = schedules.schedule_has_no_fault
