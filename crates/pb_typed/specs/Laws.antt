-- Laws on program texts.
use Rattle.std.specs.Prelude.{◌≡◌, ℕ, List}
use Rattle.pb_local.specs.Tree.{Program, program_of}
use Rattle.pb_ctree.specs.declared.tree.CTree.{CTree}
use Rattle.pb_ctree.specs.declared.body.Bodies.{Bodies}
use Rattle.pb_ctree.specs.Texts.{text, Spells}
use Rattle.pb_types.specs.declared.carried.Carried.{Carried}
use Rattle.pb_typed_types.specs.declared.types.Constant.{Constant}
use Rattle.pb_typed_types.specs.declared.types.Types.{Types}
use Rattle.pb_typed.specs.Frame.{program_pieces}
use Rattle.pb_typed.specs.Functions.{plain_bodies}
use Rattle.pb_typed.specs.Pieces.{erased_text}
use Rattle.pb_typed.specs.Texts.{IsProgramText, erasure}

-- erasing a program text gives the text of its program, with those bodies that the plain text has
abbrev pub ErasedIsPlain : Type 0
ErasedIsPlain = (p : Program) (types : List Carried) (constants : List Constant) (prelude : List ℕ) (bodies : List (List ℕ)) →
    erased_text p (program_pieces p types constants prelude bodies) ≡ text p prelude (plain_bodies p types bodies)

-- the bodies of the functions that the plain text has
pub record ArePlain (tree : CTree) (types : Types) (bodies plain : Bodies) : Type 0 where
  pub prelude : plain.prelude ≡ bodies.prelude
  pub list : plain.list.items ≡ plain_bodies (program_of tree.local) types.labels.items bodies.list.items

-- what is left of a program text spells its tree
abbrev pub ErasureSpells : Type 0
ErasureSpells = (tree : CTree) (types : Types) (bodies plain : Bodies) (bytes : List ℕ) → IsProgramText tree types bodies bytes → ArePlain tree types bodies plain →
    Spells tree plain (erasure tree types bodies)
