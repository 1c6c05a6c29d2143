use Rattle.pb_strips_parse_laws.proofs.SmallFile as small
use Rattle.pb_strips_parse_laws.proofs.laws.read_is_small.Goals as goal

pub returns : goal.returns
returns c = small.small_file
