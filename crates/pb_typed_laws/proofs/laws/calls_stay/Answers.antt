use Rattle.pb_typed_laws.proofs.Stay.{calls_stay}
use Rattle.pb_typed_laws.proofs.laws.calls_stay.Goals as goal

pub returns : goal.returns
returns c = calls_stay
