use Rattle.pb_kernels.proofs.Formats.{reads_the_format}
use Rattle.pb_kernels.proofs.law.reads_the_format.Goals as goal

pub returns : goal.returns
returns c = reads_the_format
