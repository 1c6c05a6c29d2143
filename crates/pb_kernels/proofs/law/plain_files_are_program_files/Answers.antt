use Rattle.pb_kernels.proofs.Formats.{plain_is_program}
use Rattle.pb_kernels.proofs.law.plain_files_are_program_files.Goals as goal

pub returns : goal.returns
returns c = plain_is_program
