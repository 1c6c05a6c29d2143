use Rattle.std.proofs.Common.{◌≡◌, sym, ◌∙◌, length-set}
use Rattle.std.specs.Cmp.{booleans_Decides}
use Rattle.std.proofs.lemmas.Bool.{not-false}
use Rattle.pb_sim_ready.specs.Listed.{marked}
use Rattle.pb_sim_ready.proofs.Keeps.{rising_of, mark_read, put_again, put_set}
use Rattle.pb_sim_ready.proofs.ready.Ready.set.Goals as goal

pub mark-requires-clause-rising : goal.mark-requires-clause-rising
mark-requires-clause-rising c =
    rising_of (marked c.self.inside.marks.items) c.self.inside.total c.self.inside.list.items c.self.invariant.0.exact

pub invariant_of-self : goal.invariant_of-self
invariant_of-self c =
    let marks = c.self.inside.marks.items in (
      record {
        each = length-set marks c.args.number c.args.ready ∙ c.self.invariant.0.each;
        exact = c.mark.ensures.marked (marked marks) c.self.invariant.0.exact
            ∙ put_set marks c.self.inside.total c.args.number c.args.ready c.self.invariant.0.each (rw (← c.self.view_is) at c.requires);
      },
      c.mark.ensures.room,
    )

pub returns-else-index-ready-clause-set : goal.returns-else-index-ready-clause-set
returns-else-index-ready-clause-set c = λ f h.
    let here : c.index.result.now ≡ f c.args.number =
    mark_read f c.self.inside.marks.items c.self.inside.total c.self.inside.list.items c.args.number c.index.result.now c.index.ensures
    c.self.invariant.0.each c.self.invariant.0.exact (rw (← c.self.view_is) at c.requires) (rw (← c.self.view_is) at h) in
    h ∙ put_again f c.args.self.now.total c.args.number c.args.ready (sym here ∙ (booleans_Decides _ c.args.ready).0 (not-false _ c.if-index-ready.false))
