-- Statements that are added to others.
use Rattle.std.specs.Prelude.{◌≡◌, List, [], ◌∷◌, ◌++◌, map}
use Rattle.pb_local.specs.declared.stmt.Stmt.{Stmt}
use Rattle.pb_local.specs.Tree.{Code, Codes, more, plain}

-- statements before others
abbrev pub onto : List Code → Codes → Codes
onto [] tail = tail
onto (c ∷ cs) tail = more c (onto cs tail)

-- the new list is the old one and behind it a piece of this kind
pub record Added (old new : List Stmt) (IsPiece : List Code → Type 0) : Type 0 where
  pub piece : List Code
  pub is : map plain new ≡ map plain old ++ piece
  pub has : IsPiece piece
