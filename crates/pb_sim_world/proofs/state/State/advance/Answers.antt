use Rattle.std.proofs.Common.{refl}
use Rattle.pb_sim_world.proofs.Advancing.{advanced}
use Rattle.pb_sim_world.proofs.state.State.advance.Goals as goal

pub returns-clause-advanced : goal.returns-clause-advanced
returns-clause-advanced c =
    advanced c.args.self.now c.args.rank c.index_mut.result.now c.advance.new.self c.args.input _ c.requires.each c.requires.there c.index_mut.ensures.value refl
    c.advance.ensures.step c.advance.ensures.fits c.advance.ensures.n
