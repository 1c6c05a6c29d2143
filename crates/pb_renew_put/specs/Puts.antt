-- What stands in OUT and the files beside it when texts were put, or weren't.
use Rattle.std.specs.Prelude.{◌≡◌, ◌≢◌, ◌⊎◌, ℕ, ◌≤◌, Bool, true, false, List, Option, None, Some, IsSome, ⊤}
use Rattle.pb_io.specs.Faults.{next_count}
use Rattle.pb_io.specs.Files.{File, file_of}
use Rattle.pb_renew_put.specs.declared.fault.PutFault.{PutFault}
use Rattle.pb_renew_put.specs.declared.fault.PutFault.TheVariants.{NoMemory, Busy, Changed, Olds, ReadFault, WriteFault, Halfway}
use Rattle.pb_renew_put.specs.Jobs.{Behind, Task}
use Rattle.pb_renew_put.specs.Names.{is_old_name, is_written, left_name, new_name, old_file, spare_name}
use Rattle.pb_renew_store.specs.Changes.{KeepsFile}

-- ---- when all was put

-- OUT.left had what was told, and has the bodies; where none go there it is as it was
abbrev pub PutsLeft : Option Behind → List ℕ → List File → List File → Type 0
PutsLeft None out old new = KeepsFile (left_name out) old new
PutsLeft (Some b) out old new = (file_of old (left_name out) ≡ b.before) × (file_of new (left_name out) ≡ Some b.bodies)

-- nothing is left of a new OUT.left
abbrev pub ClearsSpare : Option Behind → List ℕ → List File → List File → Type 0
ClearsSpare None out old new = KeepsFile (spare_name out) old new
ClearsSpare (Some b) out old new = (file_of old (spare_name out) ≡ None) × (file_of new (spare_name out) ≡ None)

-- the old OUT stands whole under a name that no file had
pub record KeepsOld (out : List ℕ) (bytes : Option (List ℕ)) (old new : List File) : Type 0 where
  pub name : List ℕ
  pub is : is_old_name out name ≡ true
  pub missing : file_of old name ≡ None
  pub whole : file_of new name ≡ bytes

abbrev pub KeepsOldIf : Bool → List ℕ → Option (List ℕ) → List File → List File → Type 0
KeepsOldIf false out bytes old new = ⊤
KeepsOldIf true out None old new = ⊤
KeepsOldIf true out (Some bytes) old new = KeepsOld out (Some bytes) old new

pub record Puts (t : Task) (old new : List File) : Type 0 where
  pub source : file_of old t.file ≡ Some t.source
  pub was : file_of old t.out ≡ t.old
  pub text : file_of new t.out ≡ Some t.text
  pub left : PutsLeft t.behind t.out old new
  pub free : file_of old (new_name t.out) ≡ None
  pub fresh : file_of new (new_name t.out) ≡ None
  pub spare : ClearsSpare t.behind t.out old new
  pub kept : KeepsOldIf t.keeps_old t.out t.old old new

-- ---- when it wasn't

-- OUT.left is as it was; halfway it has the bodies
abbrev pub IsBehind : PutFault → Option Behind → List ℕ → List File → List File → Type 0
IsBehind Halfway None out old new = ⊥
IsBehind Halfway (Some b) out old new = (file_of old (left_name out) ≡ b.before) × (file_of new (left_name out) ≡ Some b.bodies)
IsBehind other behind out old new = KeepsFile (left_name out) old new

pub record Fails (why : PutFault) (t : Task) (old new : List File) : Type 0 where
  pub text : KeepsFile t.out old new
  pub left : IsBehind why t.behind t.out old new

-- nothing is left of what the call made beside OUT
pub record Cleans (t : Task) (old new : List File) : Type 0 where
  pub fresh : KeepsFile (new_name t.out) old new
  pub spare : KeepsFile (spare_name t.out) old new

-- the counts of faults that such an ending needs by itself
abbrev pub least_count : PutFault → ℕ → ℕ
least_count NoMemory before = before
least_count Busy before = before
least_count Changed before = before
least_count Olds before = before
least_count ReadFault before = next_count before
least_count WriteFault before = next_count before
least_count Halfway before = next_count (next_count before)

-- so often the store failed. OUT.left can't be put back where it fails once more; or where somebody else makes an OUT.left.new
-- meanwhile, which can't be in a store that tells its files.
abbrev pub HasFailed : PutFault → Option (List File) → ℕ → ℕ → Type 0
HasFailed Halfway None before now = next_count before ≤ now
HasFailed why holds before now = least_count why before ≤ now

-- OUT.left isn't as it was told
abbrev pub IsLeftOther : Option Behind → List ℕ → List File → Type 0
IsLeftOther None out old = ⊥
IsLeftOther (Some b) out old = file_of old (left_name out) ≢ b.before

-- of a store that tells its files: a lock that another has, a file that isn't as it was told, and too many old files
abbrev pub IsCauseIn : PutFault → Task → List File → Type 0
IsCauseIn Busy t old = IsSome (file_of old (new_name t.out)) ⊎ IsSome (file_of old (spare_name t.out))
IsCauseIn Changed t old = (file_of old t.file ≢ Some t.source) ⊎ (file_of old t.out ≢ t.old) ⊎ IsLeftOther t.behind t.out old
IsCauseIn Olds t old = (number : ℕ) → 1 ≤ number → number ≤ 9999 → IsSome (file_of old (old_file t.out number))
IsCauseIn other t old = ⊤

-- each file but OUT and the files beside it is as it was; and of those that may keep an old OUT, each that was there
pub record KeepsRest (t : Task) (old new : List File) : Type 0 where
  pub others : (other : List ℕ) → is_written t.out other ≡ false → is_old_name t.out other ≡ false → KeepsFile other old new
  pub olds : (other : List ℕ) (bytes : List ℕ) → is_old_name t.out other ≡ true → file_of old other ≡ Some bytes → file_of new other ≡ Some bytes
  pub unkept : t.keeps_old ≡ false → (other : List ℕ) → is_old_name t.out other ≡ true → KeepsFile other old new
