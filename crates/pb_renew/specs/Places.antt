-- Where a text is to be renewed.
use Rattle.std.specs.Prelude.{◌≡◌, ℕ, ⊤, List, Bool, Option, is_some, IfSome}
use Rattle.std.specs.String.{string_bytes}
use Rattle.pb_io.specs.Faults.{Rose}
use Rattle.pb_io.specs.Files.{File, file_of}
use Rattle.pb_renew.specs.declared.place.Place.{Place}
use Rattle.pb_renew.specs.declared.unrenewed.Unrenewed.{Unrenewed}
use Rattle.pb_renew.specs.declared.unrenewed.Unrenewed.TheVariants as why

-- it is told whether a file has the name
abbrev pub IsThere : List ℕ → Bool → List File → Type 0
IsThere name it files = it ≡ is_some (file_of files name)

-- it is told which of OUT and OUT.left are there
pub record Agrees (place : Place) (files : List File) : Type 0 where
  pub out : place.is_out ≡ is_some (file_of files (string_bytes place.out))
  pub left : place.is_left ≡ is_some (file_of files (string_bytes place.left))

-- this is the place of OUT: in a store that tells its files it has no name but its own
pub record IsPlace (out : List ℕ) (place : Place) (files : List File) : Type 0 where
  pub name : string_bytes place.out ≡ out
  pub agrees : Agrees place files

-- why there is none: a store that tells its files has no file that isn't one of its own
abbrev pub IsNoPlace : Unrenewed → Option (List File) → ℕ → ℕ → Type 0
IsNoPlace why.ReadFault holds before now = Rose before now
IsNoPlace why.NoFile holds before now = IfSome holds (λ files. ⊥)
IsNoPlace why.Shared holds before now = IfSome holds (λ files. ⊥)
IsNoPlace why.NoMemory holds before now = ⊤
IsNoPlace other holds before now = ⊥
