use Rattle.pb_typed.proofs.Framing.{erased_is_plain}
use Rattle.pb_typed.proofs.laws.erased_is_plain.Goals as goal

pub returns : goal.returns
returns c = erased_is_plain
