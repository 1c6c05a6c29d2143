use Rattle.pb_sim_world.specs.Starts.{AreFresh}
use Rattle.pb_sim_world.proofs.begin.fresh_stands.Given as goal

abbrev pub invariant-loop : goal.invariant-loop
invariant-loop l = AreFresh l.counter l.stands.items
