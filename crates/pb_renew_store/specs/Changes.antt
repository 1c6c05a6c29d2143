-- What a call changes of the files of a store.
use Rattle.std.specs.Prelude.{◌≡◌, ◌≢◌, ℕ, List, ◌++◌, Option, None, Some, ⊤}
use Rattle.pb_io.specs.Files.{File, file_of}

-- of a store that tells its files: it tells them behind the call, too, and they are so
abbrev pub Turns : Option (List File) → Option (List File) → (List File → List File → Type 0) → Type 0
Turns None new Change = ⊤
Turns (Some old) None Change = ⊥
Turns (Some old) (Some new) Change = Change old new

-- a file has the bytes that it had, or is missing as it was
abbrev pub KeepsFile : List ℕ → List File → List File → Type 0
KeepsFile name old new = file_of new name ≡ file_of old name

-- so has each file with another name
abbrev pub KeepsOthers : List ℕ → List File → List File → Type 0
KeepsOthers name old new = (other : List ℕ) → other ≢ name → KeepsFile other old new

-- a file has these bytes
abbrev pub HasBytes : List ℕ → List ℕ → List File → List File → Type 0
HasBytes name bytes old new = file_of new name ≡ Some bytes

-- a file that is there has these bytes behind those that it had
abbrev pub GrowsBy : List ℕ → List ℕ → List File → List File → Type 0
GrowsBy name bytes old new = (had : List ℕ) → file_of old name ≡ Some had → file_of new name ≡ Some (had ++ bytes)

-- a file has the other's name, in place of the one that had it, and each third one is as it was
pub record Renames (from to : List ℕ) (old new : List File) : Type 0 where
  pub there : file_of new to ≡ file_of old from
  pub gone : from ≢ to → file_of new from ≡ None
  pub others : (other : List ℕ) → other ≢ from → other ≢ to → KeepsFile other old new
