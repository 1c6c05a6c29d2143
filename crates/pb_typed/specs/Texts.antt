-- Which bytes are the program text of a tree, its types and its bodies.
use Rattle.std.specs.Prelude.{◌≡◌, ℕ, List, length}
use Rattle.pb_local.specs.Tree.{program_of}
use Rattle.pb_ctree.specs.declared.tree.CTree.{CTree}
use Rattle.pb_ctree.specs.declared.body.Bodies.{Bodies}
use Rattle.pb_ctree.specs.Trees.{IsTree}
use Rattle.pb_typed_types.specs.declared.types.Types.{Types}
use Rattle.pb_typed.specs.Frame.{program_pieces}
use Rattle.pb_typed.specs.Functions.{typed_functions}
use Rattle.pb_typed.specs.Pieces.{Piece, pieces_text, erased_text}

abbrev pub pieces_of : CTree → Types → Bodies → List Piece
pieces_of tree types bodies = program_pieces (program_of tree.local) types.labels.items types.constants.items bodies.prelude bodies.list.items

-- the bytes are the program text of a well-made tree, with a body for each function
pub record IsProgramText (tree : CTree) (types : Types) (bodies : Bodies) (bytes : List ℕ) : Type 0 where
  pub made : IsTree tree
  pub many : length bodies.list.items ≡ length (typed_functions (program_of tree.local) types.labels.items)
  pub text : bytes ≡ pieces_text (program_of tree.local) (pieces_of tree types bodies)

-- what is left of it where it is erased
abbrev pub erasure : CTree → Types → Bodies → List ℕ
erasure tree types bodies = erased_text (program_of tree.local) (pieces_of tree types bodies)
