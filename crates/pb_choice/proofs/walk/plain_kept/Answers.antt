use Rattle.pb_core_language.specs.Plain.{plain_stmt}
use Rattle.pb_choice.proofs.Blocks.{plain_first}
use Rattle.pb_choice.proofs.walk.plain_kept.Goals as goal

pub returns : goal.returns
returns c = λ range whole held. plain_first range whole held (plain_stmt c.args.statement.now).mark (plain_stmt c.args.statement.now).stmt c.args.best c.requires
