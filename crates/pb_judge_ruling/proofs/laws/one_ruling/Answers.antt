use Rattle.pb_judge_ruling.proofs.Rulings.{one_ruling}
use Rattle.pb_judge_ruling.proofs.laws.one_ruling.Goals as goal

pub returns : goal.returns
returns c = one_ruling
