-- Stretches as pieces, each of which ends.
use Rattle.std.specs.Prelude.{Some}
use Rattle.pb_cost_pieces.specs.declared.stretch.Stretch.{Stretch}
use Rattle.pb_cost.specs.declared.piece.Piece.{Piece}
use Rattle.pb_cost.specs.Pieces.{piece_to}

abbrev pub closed : Stretch → Piece
closed s = piece_to (Some s.to) s
