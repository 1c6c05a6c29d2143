use Rattle.pb_sim.proofs.Nexts.{may_step}
use Rattle.pb_sim.proofs.held.Held.next.Goals as goal

pub returns-clause-may : goal.returns-clause-may
returns-clause-may c = rw (← c.self.view_is) ((may_step c.self.inside.seen.state c.args.rank c.next.result c.self.invariant.readied.state (rw (← c.self.view_is) at c.requires.there) (rw (← c.self.view_is) at c.requires.ready) c.next.ensures).0)

pub returns-clause-can : goal.returns-clause-can
returns-clause-can c = rw (← c.self.view_is) ((may_step c.self.inside.seen.state c.args.rank c.next.result c.self.invariant.readied.state (rw (← c.self.view_is) at c.requires.there) (rw (← c.self.view_is) at c.requires.ready) c.next.ensures).1)
