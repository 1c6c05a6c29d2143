-- Which bytes spell a C tree and its bodies, and which lines are the first of a spelling.
use Rattle.std.specs.Prelude.{◌≡◌, ℕ, Bool, true, ◌&&◌, List, [], ◌∷◌, ◌++◌, length}
use Rattle.pb_local.specs.Pieces as P
use Rattle.pb_local.specs.Tree.{Program, program_of}
use Rattle.pb_ctree.specs.declared.tree.CTree.{CTree}
use Rattle.pb_ctree.specs.declared.body.Bodies.{Bodies}
use Rattle.pb_ctree.specs.Frame.{text_lines}
use Rattle.pb_ctree.specs.Functions.{functions_of}
use Rattle.pb_ctree.specs.Lines.{Line, item_text}
use Rattle.pb_ctree.specs.Trees.{IsTree}

-- a line's bytes with its line feed, and without
abbrev pub line_text : Program → Line → List ℕ
line_text p l = P.line l.depth (item_text p l.item)

abbrev pub line_bytes : Program → Line → List ℕ
line_bytes p l = P.indent l.depth ++ item_text p l.item

abbrev pub text_of : Program → List Line → List ℕ
text_of p [] = []
text_of p (l ∷ ls) = line_text p l ++ text_of p ls

-- the text of a program with its bodies
abbrev pub text : Program → List ℕ → List (List ℕ) → List ℕ
text p prelude bodies = text_of p (text_lines p prelude bodies)

-- the bytes are the text of a well-made tree with a body for each function
pub record Spells (tree : CTree) (bodies : Bodies) (bytes : List ℕ) : Type 0 where
  pub made : IsTree tree
  pub many : length bodies.list.items ≡ length (functions_of (program_of tree.local))
  pub text : bytes ≡ text (program_of tree.local) bodies.prelude bodies.list.items

-- these are the first lines of a spelling, and each keeps its rule
abbrev pub Starts : Program → List (List ℕ) → List Line → Type 0
Starts p [] spelling = Unit {0}
Starts p (l ∷ ls) [] = ⊥
Starts p (l ∷ ls) (s ∷ ss) = (l ≡ line_bytes p s) × (s.kept ≡ true) × Starts p ls ss

-- the lines begin the spelling of some program and bodies, of which the lines behind don't matter
abbrev pub IsFront : List (List ℕ) → Type 0
IsFront lines = (p : Program) × (prelude : List ℕ) × (bodies : List (List ℕ)) × Starts p lines (text_lines p prelude bodies)

-- each line keeps its rule
abbrev pub all_kept : List Line → Bool
all_kept [] = true
all_kept (l ∷ ls) = l.kept && all_kept ls
