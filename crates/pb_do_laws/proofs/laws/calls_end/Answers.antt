use Rattle.pb_do_laws.proofs.Ending.{calls_end, least}
use Rattle.pb_do_laws.proofs.laws.calls_end.Goals as goal

pub returns-clause-bodies : goal.returns-clause-bodies
returns-clause-bodies c = calls_end

pub returns-clause-least : goal.returns-clause-least
returns-clause-least c = least
