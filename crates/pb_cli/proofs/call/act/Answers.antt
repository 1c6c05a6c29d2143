use Rattle.pb_cli.proofs.Replies.{no_memory}
use Rattle.pb_cli.proofs.call.act.Goals as goal

pub returns-in-Err-clause-reply : goal.returns-in-Err-clause-reply
returns-in-Err-clause-reply g c = no_memory _ _ _ _ _ _ _ c.refuse-in-Err.ensures.said
