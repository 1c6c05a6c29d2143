use Rattle.pb_types.proofs.Final.{whole_tells}
use Rattle.pb_types.proofs.whole_tells.Goals as goal

pub returns : goal.returns
returns c = whole_tells
