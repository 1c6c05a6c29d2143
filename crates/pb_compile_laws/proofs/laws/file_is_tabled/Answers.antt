use Rattle.pb_compile_laws.proofs.Tabled as tabled
use Rattle.pb_compile_laws.proofs.laws.file_is_tabled.Goals as goal

pub returns : goal.returns
returns c = tabled.file_is_tabled
