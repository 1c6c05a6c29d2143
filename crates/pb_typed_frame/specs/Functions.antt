-- The functions of labels, one label after the other.
use Rattle.std.specs.Prelude.{ℕ, IsTrue, if◌then◌else◌, List, [], ◌∷◌, ◌++◌}
use Rattle.pb_syntax.specs.declared.core_label.CoreLabel.{CoreLabel}
use Rattle.pb_ctree.specs.Functions.{has_words}
use Rattle.pb_types.specs.declared.carried.Carried.{Carried}
use Rattle.pb_typed.specs.Frame.{first_carried, others_carried, label_pieces, behind_label}
use Rattle.pb_local.specs.Names.{is_name}
use Rattle.pb_typed.specs.Pieces.{Piece}
use Rattle.pb_typed.specs.declared.function.Function.{Function}

-- the functions of one label, if it has words, and the bodies behind theirs
abbrev pub pieces_of_label : CoreLabel → Carried → List (List ℕ) → List Piece
pieces_of_label l c bodies = if has_words l.payload then label_pieces c l bodies else []

abbrev pub behind_of : CoreLabel → Carried → List (List ℕ) → List (List ℕ)
behind_of l c bodies = if has_words l.payload then behind_label c bodies else bodies

abbrev pub labels_pieces : List CoreLabel → List Carried → List (List ℕ) → List Piece
labels_pieces [] types bodies = []
labels_pieces (l ∷ ls) types bodies =
    pieces_of_label l (first_carried types) bodies ++ labels_pieces ls (others_carried types) (behind_of l (first_carried types) bodies)

abbrev pub behind_labels : List CoreLabel → List Carried → List (List ℕ) → List (List ℕ)
behind_labels [] types bodies = bodies
behind_labels (l ∷ ls) types bodies = behind_labels ls (others_carried types) (behind_of l (first_carried types) bodies)

-- a function whose name is one of the protocol language
abbrev pub Named : Function → Type 0
Named f = IsTrue (is_name f.name)
