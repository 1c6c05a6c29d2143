use Rattle.pb_typed_laws.proofs.Stay.{ends_agree}
use Rattle.pb_typed_laws.proofs.laws.ends_agree.Goals as goal

pub returns : goal.returns
returns c = ends_agree
