use Rattle.pb_renew_laws.proofs.Calls as made
use Rattle.pb_renew_laws.proofs.laws.one_has_the_lock.Goals as goal

pub returns : goal.returns
returns c = made.one_lock
