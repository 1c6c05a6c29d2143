-- The lines that tell how much a protocol sends, one for each piece:
--     least messages 2 to 5: 0 * N + 0
--     least messages 6 to max: 1 * N + -5
use Rattle.std.specs.Prelude.{ℕ, ℤ, List, ◌++◌, Option, Some, None, codes}
use Rattle.std.specs.Fmt.{signed_decimal}
use Rattle.std.specs.List.{flat_map}
use Rattle.pb_cost.specs.declared.cost.Cost.{Cost}
use Rattle.pb_cost.specs.declared.piece.Piece.{Piece}

abbrev pub end_text : Option ℤ → List ℕ
end_text None = codes "max"
end_text (Some n) = signed_decimal n

abbrev pub range_text : Piece → List ℕ
range_text p = signed_decimal p.from ++ codes " to " ++ end_text p.to

abbrev pub line_text : Piece → List ℕ
line_text p = signed_decimal p.a ++ codes " * N + " ++ signed_decimal p.b

abbrev pub piece_line : List ℕ → Piece → List ℕ
piece_line name p = name ++ range_text p ++ codes ": " ++ line_text p ++ codes "\n"

abbrev pub list_lines : List ℕ → List Piece → List ℕ
list_lines name pieces = flat_map (piece_line name) pieces

-- the four lists, in this order
abbrev pub lines_of : Cost → List ℕ
lines_of c =
    list_lines (codes "least messages ") c.least_messages.items ++ list_lines (codes "most messages ") c.most_messages.items
    ++ list_lines (codes "least words ") c.least_words.items ++ list_lines (codes "most words ") c.most_words.items
