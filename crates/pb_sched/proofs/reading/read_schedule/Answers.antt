use Rattle.pb_sched.proofs.Once.{read_as}
use Rattle.pb_sched.proofs.reading.read_schedule.Goals as goal

pub returns-clause-read : goal.returns-clause-read
returns-clause-read c = read_as c.args.bytes.now c.read.result c.read.ensures.ok c.read.ensures.fault
