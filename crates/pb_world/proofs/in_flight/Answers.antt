use Rattle.pb_world.proofs.in_flight.Goals as goal
use Rattle.pb_world.proofs.Flight.{in_flight}

pub returns : goal.returns
returns g c = in_flight
