-- The text of one line of the statements.
use Rattle.std.specs.Prelude.{ℕ, List, [], ◌∷◌, codes}
use Rattle.pb_affine.specs.declared.guard.Guard.{Guard}
use Rattle.pb_local.specs.Pieces.{joined, line}
use Rattle.pb_local.specs.Tree.{Program}
use Rattle.pb_ctree.specs.Lines.{Item, item_text}
use Rattle.pb_ctree.specs.Small.{guard_text, others_text}

-- a line at a depth, with its line feed
abbrev pub bytes : Program → ℕ → Item → List ℕ
bytes p d item = line d (item_text p item)

-- two guards or more
abbrev pub several_text : Guard → List Guard → List ℕ
several_text g gs = joined (codes "(" ∷ guard_text g ∷ codes ")" ∷ others_text gs ∷ [])
