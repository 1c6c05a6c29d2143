use Rattle.pb_compile_laws.proofs.Messages as messages
use Rattle.pb_compile_laws.proofs.laws.file_has_few_messages.Goals as goal

pub returns : goal.returns
returns c = messages.file_has_few_messages
