use Rattle.pb_shape_filled.proofs.Filled.{text_is_filled}
use Rattle.pb_shape_filled.proofs.text_is_filled.Goals as goal

pub returns : goal.returns
returns c = text_is_filled
