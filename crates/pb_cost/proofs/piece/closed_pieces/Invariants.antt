use Rattle.std.proofs.Common.{◌≡◌, ◌++◌, map, drop}
use Rattle.pb_cost.specs.Closed.{closed}
use Rattle.pb_cost.proofs.piece.closed_pieces.Given as goal

abbrev pub invariant-loop-stretch : goal.invariant-loop-stretch
invariant-loop-stretch l = l.pieces.items ++ map closed (drop l.stretch-index l.list) ≡ map closed l.list
