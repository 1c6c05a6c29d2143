-- Laws on the lines of texts.
use Rattle.std.specs.Prelude.{◌≡◌, ℕ, true, false, Decides, All, List, [], ◌∷◌, ◌++◌, length}
use Rattle.pb_local.specs.Tree.{Program}
use Rattle.pb_local.specs.WellMade.{IsWellMade}
use Rattle.pb_ctree.specs.declared.tree.CTree.{CTree}
use Rattle.pb_ctree.specs.declared.body.Bodies.{Bodies}
use Rattle.pb_ctree.specs.Bodies.{is_marker, is_body, lines_of}
use Rattle.pb_ctree.specs.Frame.{text_lines}
use Rattle.pb_ctree.specs.Functions.{functions_of}
use Rattle.pb_ctree.specs.Texts.{Spells, all_kept}

-- ---- bodies

-- no line of the bytes is a marker
abbrev pub HasNoMarker : List ℕ → Type 0
HasNoMarker bytes = All (λ line. is_marker line ≡ false) (lines_of bytes)

-- lines, each with its line feed
abbrev pub whole : List (List ℕ) → List ℕ
whole [] = []
whole (line ∷ lines) = line ++ (10 ∷ whole lines)

-- the bytes are whole lines
abbrev pub IsWhole : List ℕ → Type 0
IsWhole bytes = whole (lines_of bytes) ≡ bytes

-- a body is whole lines, none of which is a marker
abbrev pub BodiesAreLines : Type 0
BodiesAreLines = (bytes : List ℕ) → Decides (is_body bytes) (IsWhole bytes × HasNoMarker bytes)

-- ---- texts

-- with a body for each function, each line of a text keeps its rule exactly where the program is well made and no line of a body is a marker
abbrev pub KeptWhereMade : Type 0
KeptWhereMade = (p : Program) (prelude : List ℕ) (bodies : List (List ℕ)) → length bodies ≡ length (functions_of p) →
    Decides (all_kept (text_lines p prelude bodies)) (IsWellMade p × HasNoMarker prelude × All HasNoMarker bodies)

-- where each line of a text keeps its rule, the program is well made, however many bodies there are
abbrev pub MadeWhereKept : Type 0
MadeWhereKept = (p : Program) (prelude : List ℕ) (bodies : List (List ℕ)) → all_kept (text_lines p prelude bodies) ≡ true → IsWellMade p

-- a well-made program with bodies has a text of which each line keeps its rule, however many bodies there are
abbrev pub MadeIsKept : Type 0
MadeIsKept = (p : Program) (prelude : List ℕ) (bodies : List (List ℕ)) → is_body prelude ≡ true → All (λ body. is_body body ≡ true) bodies →
    IsWellMade p → all_kept (text_lines p prelude bodies) ≡ true

-- a tree with bodies has one spelling
abbrev pub OneSpelling : Type 0
OneSpelling = (tree : CTree) (bodies : Bodies) (bytes other : List ℕ) → Spells tree bodies bytes → Spells tree bodies other → bytes ≡ other
