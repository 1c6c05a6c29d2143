use Rattle.pb_do_laws.proofs.Carrying.{runs_are_one}
use Rattle.pb_do_made.proofs.Shapes.{files_are_made}
use Rattle.pb_do_made.proofs.laws.files_run_as_one.Goals as goal

pub returns : goal.returns
returns c = λ ts f file is inlined accepted n within answers. runs_are_one f file (files_are_made ts f is) inlined accepted n within answers
