use Rattle.pb_cread_unique.proofs.laws.one_text.Goals as goal
use Rattle.pb_cread_unique.proofs.Pairs.{one_text}

pub returns : goal.returns
returns c = one_text
