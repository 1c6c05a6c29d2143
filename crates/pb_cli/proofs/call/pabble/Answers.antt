use Rattle.pb_cli.proofs.Complete.{complete}
use Rattle.pb_cli.proofs.call.pabble.Goals as goal

pub returns-clause-complete : goal.returns-clause-complete
returns-clause-complete g c = complete _ _ _ _ _ _ _ c.act.ensures.reply
