use Rattle.pb_cost_file.proofs.Countable as countable
use Rattle.pb_cost_file.proofs.laws.file_is_countable.Goals as goal

pub returns : goal.returns
returns c = countable.file_is_countable
