use Rattle.pb_compile_laws.proofs.Small as small
use Rattle.pb_compile_laws.proofs.laws.file_is_small.Goals as goal

pub returns : goal.returns
returns c = small.file_is_small
