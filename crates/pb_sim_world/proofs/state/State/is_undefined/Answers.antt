use Rattle.pb_sim_world.specs.States.{next_step}
use Rattle.pb_sim_world.proofs.Alone.{choose_next}
use Rattle.pb_sim_world.proofs.Laden.{some_branch}
use Rattle.pb_sim_world.proofs.state.State.is_undefined.Goals as goal

pub returns-clause-some : goal.returns-clause-some
returns-clause-some c = λ kernel branches e. some_branch c.args.self.now c.args.rank kernel branches c.requires.sound c.requires.there (choose_next (next_step c.args.self.now c.args.rank) kernel branches e)
