use Rattle.pb_cli_laws.proofs.Draws as draws
use Rattle.pb_cli_laws.proofs.laws.drawn_has_a_step.Goals as goal

pub returns : goal.returns
returns c = draws.drawn_has_a_step
