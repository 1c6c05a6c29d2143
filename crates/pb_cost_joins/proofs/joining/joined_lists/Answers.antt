use Rattle.pb_cost_pieces.specs.Lines.{AreStretches}
use Rattle.std.proofs.Common.{subst}
use Rattle.pb_cost_joins.specs.Merging.{both_in}
use Rattle.pb_cost_joins.proofs.joining.joined_lists.Goals as goal

pub merge-requires : goal.merge-requires
merge-requires c = rw (c.deref.ensures.value, c.deref-2.ensures.value) (record { from = c.args.a.now.span.from; last = c.args.a.now.span.to; read = c.first_number-builder.ensures })

pub returns : goal.returns
returns c =
    let on = rw (c.deref.ensures.value, c.deref-2.ensures.value) at c.in_ok-merge.ensures in
    let read = on c.args.a.now.span.from c.args.a.now.span.to c.first_number-builder.ensures in
    subst (λ last. AreStretches (both_in c.args.join c.args.a.now.list.items c.args.b.now.list.items) last c.args.a.now.span.from c.in_ok-list.list.items) read.0
    (c.in_ok-list.ensures (both_in c.args.join c.args.a.now.list.items c.args.b.now.list.items) c.args.a.now.span.from read.1)
