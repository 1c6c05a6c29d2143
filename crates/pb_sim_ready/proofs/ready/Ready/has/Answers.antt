use Rattle.pb_sim_ready.proofs.Keeps.{mark_read}
use Rattle.pb_sim_ready.proofs.ready.Ready.has.Goals as goal

pub returns : goal.returns
returns c = λ f h.
    mark_read f c.self.inside.marks.items c.self.inside.total c.self.inside.list.items c.args.number c.index.result.now c.index.ensures
    c.self.invariant.0.each c.self.invariant.0.exact (rw (← c.self.view_is) at c.requires) (rw (← c.self.view_is) at h)
