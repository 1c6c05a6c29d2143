use Rattle.pb_compile_verdict_laws.proofs.Files as files
use Rattle.pb_compile_verdict_laws.proofs.laws.one_meaning.Goals as goal

pub returns : goal.returns
returns c = files.one_meaning
