use Rattle.pb_renew_laws.proofs.Two as made
use Rattle.pb_renew_laws.proofs.laws.two_calls_lose_nothing.Goals as goal

pub returns : goal.returns
returns c = made.two_lose_nothing
