use Rattle.pb_do_text_laws.proofs.Readable as readable
use Rattle.pb_do_parse_laws.proofs.Small as small
use Rattle.pb_do_parse_laws.proofs.laws.read_inlined_is_readable.Goals as goal

pub returns : goal.returns
returns c = λ bytes tokens calls file text whole within inlined. readable.inlined_is_readable bytes tokens calls file text whole (small.small_file tokens calls whole within) inlined
