use Rattle.pb_do_syntax.specs.Plain.{plain_file}
use Rattle.pb_cli_expand.proofs.Told.{unprinted}
use Rattle.pb_cli_expand.proofs.answer.replaced.Goals as goal

pub returns-in-Ok-clause-denied : goal.returns-in-Ok-clause-denied
returns-in-Ok-clause-denied c = unprinted (plain_file c.args.calls.now)
