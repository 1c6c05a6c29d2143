use Rattle.pb_do_laws.proofs.Staying.{stays}
use Rattle.pb_do_laws.proofs.laws.continues_stay.Goals as goal

pub returns : goal.returns
returns c = stays
