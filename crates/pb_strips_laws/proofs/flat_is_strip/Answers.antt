use Rattle.pb_strips_laws.proofs.Whole.{flat_is_strip}
use Rattle.pb_strips_laws.proofs.flat_is_strip.Goals as goal

pub returns : goal.returns
returns c = flat_is_strip
