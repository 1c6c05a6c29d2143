use Rattle.pb_world.proofs.example.Goals as goal
use Rattle.pb_world.proofs.ExampleLaws.{laws, ranks}

pub returns : goal.returns
returns c = record { laws = laws; ranks = ranks }
