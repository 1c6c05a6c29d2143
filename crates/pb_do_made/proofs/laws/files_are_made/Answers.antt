use Rattle.pb_do_made.proofs.Shapes.{files_are_made}
use Rattle.pb_do_made.proofs.laws.files_are_made.Goals as goal

pub returns : goal.returns
returns c = files_are_made
