use Rattle.pb_strips_syntax.specs.Plain.{plain_file}
use Rattle.pb_cli_strips.proofs.Told.{unheld}
use Rattle.pb_cli_strips.proofs.answer.printed.Goals as goal

pub returns-in-Ok-clause-denied : goal.returns-in-Ok-clause-denied
returns-in-Ok-clause-denied c = unheld (plain_file c.args.strips.now)
