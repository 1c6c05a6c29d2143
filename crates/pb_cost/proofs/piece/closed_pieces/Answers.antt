use Rattle.std.proofs.Common.{◌∙◌, ◌++◌, ◌∷◌, [], ap, map}
use Rattle.pb_cost.specs.Closed.{closed}
use Rattle.pb_cost.proofs.Conversions.{push_step, push_end}
use Rattle.pb_cost.proofs.piece.closed_pieces.Goals as goal

pub loop-stretch-preserved : goal.loop-stretch-preserved
loop-stretch-preserved c =
    push_step c.args.list.now c.loop-stretch.stretch-index c.stretch-item.result c.loop-stretch.pieces.items c.push.new.self.items (map closed c.args.list.now) c.loop-stretch-test.true c.stretch-item.is
    (c.in_ok-push.ensures.items ∙ ap (λ z. c.loop-stretch.pieces.items ++ z ∷ []) c.closed_piece.ensures) c.loop-stretch.invariant

pub returns : goal.returns
returns c = push_end c.args.list.now c.loop-stretch.stretch-index c.loop-stretch.pieces.items (map closed c.args.list.now) c.loop-stretch-test.false c.loop-stretch.invariant
