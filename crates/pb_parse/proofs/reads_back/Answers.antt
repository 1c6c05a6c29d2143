use Rattle.pb_parse.proofs.Texts.{reads_back}
use Rattle.pb_parse.proofs.reads_back.Goals as goal

pub returns : goal.returns
returns c = reads_back
