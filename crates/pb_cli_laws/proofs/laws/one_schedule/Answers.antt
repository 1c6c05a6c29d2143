use Rattle.pb_cli_laws.proofs.Schedules as schedules
use Rattle.pb_cli_laws.proofs.laws.one_schedule.Goals as goal

pub returns : goal.returns
returns c = schedules.one_schedule
