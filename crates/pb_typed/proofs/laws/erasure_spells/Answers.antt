use Rattle.pb_typed.proofs.Framing.{erasure_spells}
use Rattle.pb_typed.proofs.laws.erasure_spells.Goals as goal

pub returns : goal.returns
returns c = erasure_spells
