use Rattle.pb_judge_ruling.proofs.Rulings.{ruling_means}
use Rattle.pb_judge_ruling.proofs.laws.ruling_means.Goals as goal

pub returns : goal.returns
returns c = ruling_means
