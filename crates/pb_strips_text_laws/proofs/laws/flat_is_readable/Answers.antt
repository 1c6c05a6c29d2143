use Rattle.pb_strips_text_laws.proofs.Readable as readable
use Rattle.pb_strips_text_laws.proofs.laws.flat_is_readable.Goals as goal

pub returns : goal.returns
returns c = readable.flat_is_readable
