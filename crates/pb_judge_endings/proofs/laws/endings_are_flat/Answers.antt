use Rattle.pb_judge_endings.proofs.Flattened.{endings_are_flat}
use Rattle.pb_judge_endings.proofs.laws.endings_are_flat.Goals as goal

pub returns : goal.returns
returns c = endings_are_flat
