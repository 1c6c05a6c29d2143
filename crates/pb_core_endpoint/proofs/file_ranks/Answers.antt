use Rattle.pb_core_endpoint.proofs.file_ranks.Goals as goal
use Rattle.pb_core_endpoint.proofs.FileDone.{file_ranks}
use Rattle.pb_core_endpoint.proofs.Shapes.{files_are_shaped}

pub returns : goal.returns
returns c = record { shape = files_are_shaped; ranks = file_ranks }
