use Rattle.std.proofs.Common.{subst}
use Rattle.pb_sched.specs.Outcomes.{IsFault}
use Rattle.pb_cli_simulate.proofs.sources.read_turns.Goals as goal

pub returns-in-Err-TooMany-clause-denied : goal.returns-in-Err-TooMany-clause-denied
returns-in-Err-TooMany-clause-denied c = (c.in-Err-TooMany.field-0-0, subst (λ f. IsFault c.args.bytes.now f) c.in-Err-TooMany.field-0-is c.in-Err-TooMany.ensures.fault)
