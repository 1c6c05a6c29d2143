use Rattle.pb_renew_laws.proofs.Calls as made
use Rattle.pb_renew_laws.proofs.laws.calls_lose_nothing.Goals as goal

pub returns : goal.returns
returns c = made.lose_nothing
