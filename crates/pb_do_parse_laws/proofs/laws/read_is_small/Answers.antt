use Rattle.pb_do_parse_laws.proofs.Small as small
use Rattle.pb_do_parse_laws.proofs.laws.read_is_small.Goals as goal

pub returns : goal.returns
returns c = small.small_file
