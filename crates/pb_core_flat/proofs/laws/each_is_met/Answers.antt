use Rattle.pb_core_flat.proofs.Each.{each_is_met}
use Rattle.pb_core_flat.proofs.laws.each_is_met.Goals as goal

pub returns : goal.returns
returns c = each_is_met
