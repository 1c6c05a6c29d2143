-- A file that couldn't be read.
use Rattle.std.specs.Prelude.{ℕ, Bool, List, Option}
use Rattle.pb_io.specs.Faults.{Rose}
use Rattle.pb_io.specs.Files.{File, IsSureOf}

-- the count of the folder's faults rose, and it isn't a steady folder that holds the file
pub record IsUnread (steady : Bool) (holds : Option (List File)) (before now : ℕ) (name : List ℕ) : Type 0 where
  pub rose : Rose before now
  pub unsure : IsSureOf steady holds name → ⊥
