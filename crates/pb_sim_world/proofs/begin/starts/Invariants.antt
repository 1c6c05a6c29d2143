use Rattle.pb_sim_world.specs.Starts.{AreStarts}
use Rattle.pb_sim_world.proofs.begin.starts.Given as goal

abbrev pub invariant-loop-rank : goal.invariant-loop-rank
invariant-loop-rank l = AreStarts l.tree l.n l.rank l.ranks.items
