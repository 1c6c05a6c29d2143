use Rattle.pb_do_text_laws.proofs.Readable as readable
use Rattle.pb_do_text_laws.proofs.laws.inlined_is_readable.Goals as goal

pub returns : goal.returns
returns c = readable.inlined_is_readable
