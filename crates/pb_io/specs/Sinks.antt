-- What a sink takes of a piece.
use Rattle.std.specs.Prelude.{ℕ, ◌<◌, ◌≤◌, List, length, take, Option}
use Rattle.std.specs.Io.KnownBytes.{Appends}

-- so many bytes of the piece, and some where it has any
pub record IsCountOf (piece : List ℕ) (count : ℕ) : Type 0 where
  pub most : count ≤ length piece
  pub some : 0 < length piece → 0 < count

-- some first bytes were appended, and not all
pub record AppendsFront (old new : Option (List ℕ)) (bytes : List ℕ) : Type 0 where
  pub count : ℕ
  pub short : count < length bytes
  pub front : Appends old new (take count bytes)
