use Rattle.pb_parse_laws.proofs.Countable as countable
use Rattle.pb_parse_laws.proofs.laws.parsed_is_countable.Goals as goal

pub returns : goal.returns
returns c = countable.parsed_is_countable
