use Rattle.std.proofs.Common.{◌≡◌, ◌++◌, drop, map}
use Rattle.pb_local.specs.Pieces.{joined}
use Rattle.pb_local.proofs.pieces.push_pieces.Given as goal

abbrev pub invariant-loop-piece : goal.invariant-loop-piece
invariant-loop-piece l = l.out.items ++ joined (map (λ p. p.now) (drop l.piece-index l.pieces)) ≡ l.initial.out.items ++ joined (map (λ p. p.now) l.pieces)
