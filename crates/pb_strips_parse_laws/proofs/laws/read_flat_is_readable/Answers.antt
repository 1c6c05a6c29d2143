use Rattle.pb_strips_text_laws.proofs.Readable as readable
use Rattle.pb_strips_parse_laws.proofs.SmallFile as small
use Rattle.pb_strips_parse_laws.proofs.laws.read_flat_is_readable.Goals as goal

pub returns : goal.returns
returns c = λ bytes tokens strips text whole within fine none. readable.flat_is_readable bytes tokens strips text whole (small.small_file tokens strips whole within) fine none
