-- A count has one list of pieces.
use Rattle.std.specs.Prelude.{◌≡◌, List}
use Rattle.pb_core_language.specs.Plain.{Protocol}
use Rattle.pb_core_language.specs.Tree.{BlockTree}
use Rattle.pb_cost_laws.specs.Sent.{Counted, Way}
use Rattle.pb_cost.specs.declared.piece.Piece.{Piece}
use Rattle.pb_cost.specs.Costs.{HasPieces}

-- of a part of a protocol, so it can't have at most 4,096 pieces and more
abbrev pub OneList : Type 0
OneList = (p : Protocol) (way : Way) (what : Counted) (part : BlockTree) (xs ys : List Piece) → HasPieces p way what part xs → HasPieces p way what part ys → xs ≡ ys
