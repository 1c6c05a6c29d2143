-- What the calls of a store do to its files, one deed after the other.
use Rattle.std.specs.Prelude.{◌≡◌, ℕ, Bool, true, false, List, [], ◌∷◌, ◌++◌, Option, None, Some, IsSome, nat_eq}
use Rattle.std.specs.Cmp.Lexicographic.{pointwise}
use Rattle.pb_io.specs.Files.{File, file_of}
use Rattle.pb_renew_store.specs.Changes.{GrowsBy, HasBytes, KeepsOthers, Renames, Turns}

pub data Deed : Type 0 where
  -- an empty file was made, where none had the name
  made : (name : List ℕ) → Deed
  -- none was made, since a file has the name
  met : (name : List ℕ) → Deed
  -- some bytes were written behind those that the file had
  wrote : (name bytes : List ℕ) → Deed
  -- writing to the file failed
  spoiled : (name : List ℕ) → Deed
  -- the file was compared with these bytes, or with a missing file
  compared : (name : List ℕ) (bytes : Option (List ℕ)) (same : Bool) → Deed
  -- the bytes of the file were brought to the disk
  synced : (name : List ℕ) → Deed
  -- the names of the folder that the file is in were brought to the disk
  settled : (name : List ℕ) → Deed
  renamed : (from to : List ℕ) → Deed
  removed : (name : List ℕ) → Deed

-- the two are the same bytes, or both missing
abbrev pub same_content : Option (List ℕ) → Option (List ℕ) → Bool
same_content None None = true
same_content None (Some other) = false
same_content (Some bytes) None = false
same_content (Some bytes) (Some other) = pointwise nat_eq bytes other

-- what a deed changes of the files
abbrev pub Does : Deed → List File → List File → Type 0
Does (made name) old new = (file_of old name ≡ None) × HasBytes name [] old new × KeepsOthers name old new
Does (met name) old new = IsSome (file_of old name) × (new ≡ old)
Does (wrote name bytes) old new = IsSome (file_of old name) × GrowsBy name bytes old new × KeepsOthers name old new
Does (spoiled name) old new = (IsSome (file_of old name) → IsSome (file_of new name)) × KeepsOthers name old new
Does (compared name bytes same) old new = (same ≡ same_content (file_of old name) bytes) × (new ≡ old)
Does (synced name) old new = new ≡ old
Does (settled name) old new = new ≡ old
Does (renamed from to) old new = IsSome (file_of old from) × Renames from to old new
Does (removed name) old new = (file_of new name ≡ None) × KeepsOthers name old new

-- of a store that tells its deeds: behind those that it told it tells one more
abbrev pub Tells : Option (List Deed) → Option (List Deed) → Deed → Type 0
Tells None new deed = Unit {0}
Tells (Some old) new deed = new ≡ Some (old ++ deed ∷ [])

-- one more deed was done
pub record Did (old_deeds new_deeds : Option (List Deed)) (old new : Option (List File)) (deed : Deed) : Type 0 where
  pub told : Tells old_deeds new_deeds deed
  pub files : Turns old new (Does deed)

-- none was done
pub record DidNothing (old_deeds new_deeds : Option (List Deed)) (old new : Option (List File)) : Type 0 where
  pub told : new_deeds ≡ old_deeds
  pub files : new ≡ old
