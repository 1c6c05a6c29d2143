use Rattle.std.proofs.Common.{subst}
use Rattle.pb_cost_pieces.specs.Lines.{AreStretches}
use Rattle.pb_cost_joins.specs.Clipped.{clipped}
use Rattle.pb_cost_joins.proofs.cut.clipped_list.Goals as goal

pub returns : goal.returns
returns c = subst (λ last. AreStretches (clipped c.args.span c.args.line) last c.args.span.from c.in_ok-list.list.items) c.in_ok-builder.ensures.to (c.in_ok-list.ensures (clipped c.args.span c.args.line) c.args.span.from c.in_ok-builder.ensures.so_far)
