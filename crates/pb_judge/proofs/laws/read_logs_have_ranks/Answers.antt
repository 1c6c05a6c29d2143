use Rattle.pb_judge.proofs.ReadRanks.{read_logs_have_ranks}
use Rattle.pb_judge.proofs.laws.read_logs_have_ranks.Goals as goal

pub returns : goal.returns
returns c = read_logs_have_ranks
