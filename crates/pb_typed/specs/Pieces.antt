-- The pieces of a program text: lines of the plain text, lines that stand in the place of one, and further lines.
use Rattle.std.specs.Prelude.{ℕ, List, [], ◌∷◌, ◌++◌}
use Rattle.pb_local.specs.Pieces as P
use Rattle.pb_local.specs.Tree.{Program}
use Rattle.pb_ctree.specs.Lines.{Item, Line}
use Rattle.pb_cprint_lines.specs.Printed.{bytes}

pub data Piece : Type 0 where
  -- the line as it stands in the plain text
  same : (depth : ℕ) (item : Item) → Piece
  -- this text in the place of a plain line
  instead : (depth : ℕ) (item : Item) (text : List ℕ) → Piece
  -- a line that the plain text doesn't have
  added : (depth : ℕ) (text : List ℕ) → Piece

-- what a piece spells
abbrev pub piece_text : Program → Piece → List ℕ
piece_text p (same depth item) = bytes p depth item
piece_text p (instead depth item text) = P.line depth text
piece_text p (added depth text) = P.line depth text

abbrev pub pieces_text : Program → List Piece → List ℕ
pieces_text p [] = []
pieces_text p (x ∷ xs) = piece_text p x ++ pieces_text p xs

-- what is left of a piece where it is erased: the plain line, or nothing
abbrev pub erased : Program → Piece → List ℕ
erased p (same depth item) = bytes p depth item
erased p (instead depth item text) = bytes p depth item
erased p (added depth text) = []

abbrev pub erased_text : Program → List Piece → List ℕ
erased_text p [] = []
erased_text p (x ∷ xs) = erased p x ++ erased_text p xs

-- lines that stand as they are
abbrev pub as_they_are : List Line → List Piece
as_they_are [] = []
as_they_are (l ∷ ls) = same l.depth l.item ∷ as_they_are ls

-- further lines
abbrev pub further : ℕ → List (List ℕ) → List Piece
further depth [] = []
further depth (t ∷ ts) = added depth t ∷ further depth ts
