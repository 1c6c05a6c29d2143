use Rattle.std.specs.Bool.{IsTrue}
use Rattle.pb_sim.proofs.Runs.{begins}
use Rattle.pb_sim.proofs.sim.Sim.new.Goals as goal

pub returns-clause-run : goal.returns-clause-run
returns-clause-run g c = λ may. begins _ (λ t W turn. IsTrue (may t W turn)) _ _ c.in_ok-held.held c.in_ok-held.ensures.begun
