use Rattle.pb_compile_laws.proofs.Proper as proper
use Rattle.pb_compile_laws.proofs.laws.file_is_proper.Goals as goal

pub returns : goal.returns
returns c = proper.file_is_proper
