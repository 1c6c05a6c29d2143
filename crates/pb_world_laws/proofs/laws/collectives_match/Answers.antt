use Rattle.pb_world_laws.proofs.Rounds as made
use Rattle.pb_world_laws.proofs.laws.collectives_match.Goals as goal

pub returns : goal.returns
returns g c = made.collectives_match
