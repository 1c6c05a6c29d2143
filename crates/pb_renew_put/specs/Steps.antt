-- What the steps of a call come to.
use Rattle.std.specs.Prelude.{◌≡◌, ◌⊎◌, ℕ, ◌<◌, ◌≤◌, Bool, true, false, List, ◌∷◌, Option, Some, Result, Ok, Err, option_map}
use Rattle.pb_io.specs.Faults.{Rose, next_count}
use Rattle.pb_io.specs.Files.{File}
use Rattle.pb_renew_store.specs.Deeds.{Deed, removed, Did, DidNothing}
use Rattle.pb_renew_put.specs.declared.fault.PutFault.{PutFault}
use Rattle.pb_renew_put.specs.declared.fault.PutFault.TheVariants.{Changed, ReadFault}
use Rattle.pb_renew_put.specs.declared.files.Files.{Files}
use Rattle.pb_renew_put.specs.Ends.{Finishes, IsLeftSo, IsSeenBy, count_again, is_grown, is_taken, least_in}
use Rattle.pb_renew_put.specs.Jobs.{Task}
use Rattle.pb_renew_put.specs.Names.{is_written, left_name, new_name, old_file, spare_name}
use Rattle.pb_renew_put.specs.Phases.{Kept, keeps, unkept, LeftIs, untouched, grown, undone, Own, nothing, has, broken, Phase, is_kept, is_own, on_differs, on_own, on_seen, then_set}

-- the names of the files, and what FILE has
pub record AreFiles (t : Task) (files : Files) : Type 0 where
  pub file : files.file.now ≡ t.file
  pub out : files.out.now ≡ t.out
  pub left : files.left.now ≡ left_name t.out
  pub fresh : files.fresh.now ≡ new_name t.out
  pub spare : files.spare.now ≡ spare_name t.out
  pub source : option_map (λ b. b.items) files.source.now ≡ Some t.source
  pub apart : is_written t.out t.file ≡ false

-- under the lock, before OUT is put
abbrev pub under : Own → Own → Kept → List (List ℕ) → Bool → Bool → Bool → LeftIs → Phase
under fresh spare kept taken saw_file saw_out saw_left left = record {
  fresh = fresh;
  spare = spare;
  saw_file = saw_file;
  saw_out = saw_out;
  saw_left = saw_left;
  left = left;
  is_put = false;
  kept = kept;
  taken = taken;
  differs = false;
  strays = false;
}

-- the file with this name is the call's own, and so it is set
pub record Sets (t : Task) (name : List ℕ) (set : Own → Phase) : Type 0 where
  pub on : (own : Own) (change : Own → Option Own) → on_own t (set own) name change ≡ then_set set (change own)

-- the file has the bytes; or it is the call's own still
abbrev pub Appends : {T E : Type 0} → Result T E → (Own → Phase) → List ℕ → Phase → Type 0
Appends (Ok value) set bytes p = p ≡ set (has bytes false)
Appends (Err fault) set bytes p = p ≡ set broken

abbrev pub Writes : {T E : Type 0} → Result T E → (Own → Phase) → List ℕ → Phase → Type 0
Writes (Ok value) set bytes p = p ≡ set (has bytes true)
Writes (Err fault) set bytes p = (own : Own) × (is_own own ≡ true) × (p ≡ set own)

-- a file was looked at
abbrev pub Looks : {T : Type 0} → Result T PutFault → Task → Phase → List ℕ → Option (List ℕ) → Phase → Type 0
Looks (Ok value) t p name bytes q = q ≡ on_seen t p name bytes
Looks (Err why) t p name bytes q = ((why ≡ Changed) × (q ≡ on_differs t p name bytes)) ⊎ ((why ≡ ReadFault) × (q ≡ p))

-- a file was taken away, or the store failed
abbrev pub Removes : List ℕ → Option (List Deed) → Option (List Deed) → Option (List File) → Option (List File) → ℕ → ℕ → Type 0
Removes name old_deeds new_deeds old new before now =
    Did old_deeds new_deeds old new (removed name) ⊎ (DidNothing old_deeds new_deeds old new × Rose before now)

-- the lock is held still, and so is OUT.left.new, if that is told
pub record Fell (why : PutFault) (t : Task) (owns : Bool) (p : Phase) : Type 0 where
  pub locked : is_own p.fresh ≡ true
  pub spare : is_own p.spare ≡ owns
  pub strays : p.strays ≡ false
  pub put : p.is_put ≡ false
  pub left : IsLeftSo why p.left
  pub cause : IsSeenBy why t p

abbrev pub LooksTwice : {T : Type 0} → Result T PutFault → Task → Own → Own → Kept → List (List ℕ) → Phase → Type 0
LooksTwice (Ok value) t fresh spare kept taken p = p ≡ under fresh spare kept taken true true false untouched
LooksTwice (Err why) t fresh spare kept taken p = Fell why t (is_own spare) p

-- the copy of the old OUT is on the disk
abbrev pub FillsCopy : {T E : Type 0} → Result T E → Own → Own → List ℕ → List (List ℕ) → List ℕ → Phase → Type 0
FillsCopy (Ok value) fresh spare name taken bytes p = p ≡ under fresh spare (keeps name (has bytes true)) taken true true false untouched
FillsCopy (Err fault) fresh spare name taken bytes p = (own : Own) × (p ≡ under fresh spare (keeps name own) taken true true false untouched)

abbrev pub WritesCopy : {T E : Type 0} → Result T E → Own → Own → List ℕ → List (List ℕ) → List ℕ → Phase → Type 0
WritesCopy (Ok value) fresh spare name taken bytes p = p ≡ under fresh spare (keeps name (has bytes true)) taken true true false untouched
WritesCopy (Err fault) fresh spare name taken bytes p = (kept : Kept) × (p ≡ under fresh spare kept taken true true false untouched)

-- the copy has the name with this number, or a file has it
abbrev pub TriesSo : Bool → Task → Own → Own → List (List ℕ) → ℕ → List ℕ → Phase → Type 0
TriesSo true t fresh spare taken number bytes p = p ≡ under fresh spare (keeps (old_file t.out number) (has bytes true)) taken true true false untouched
TriesSo false t fresh spare taken number bytes p = p ≡ under fresh spare unkept (old_file t.out number ∷ taken) true true false untouched

abbrev pub Tries : Result Bool PutFault → Task → Own → Own → List (List ℕ) → ℕ → List ℕ → Phase → Type 0
Tries (Ok is_copied) t fresh spare taken number bytes p = TriesSo is_copied t fresh spare taken number bytes p
Tries (Err why) t fresh spare taken number bytes p = Fell why t (is_own spare) p

-- none of the names before this number is free
pub record AllTaken (t : Task) (fresh spare : Own) (number : ℕ) (p : Phase) : Type 0 where
  pub taken : List (List ℕ)
  pub is : p ≡ under fresh spare unkept taken true true false untouched
  pub all : (before : ℕ) → 1 ≤ before → before < number → is_taken taken (old_file t.out before) ≡ true

pub record Copied (t : Task) (fresh spare : Own) (bytes : List ℕ) (p : Phase) : Type 0 where
  pub name : List ℕ
  pub taken : List (List ℕ)
  pub is : p ≡ under fresh spare (keeps name (has bytes true)) taken true true false untouched

abbrev pub Copies : {T : Type 0} → Result T PutFault → Task → Own → Own → List ℕ → Phase → Type 0
Copies (Ok value) t fresh spare bytes p = Copied t fresh spare bytes p
Copies (Err why) t fresh spare bytes p = Fell why t (is_own spare) p

-- all is ready for the renaming, but for OUT.left
pub record Prepared (t : Task) (fresh spare : Own) (p : Phase) : Type 0 where
  pub kept : Kept
  pub taken : List (List ℕ)
  pub is : p ≡ under fresh spare kept taken true true false untouched
  pub done : is_kept t.keeps_old t.old kept ≡ true

abbrev pub Prepares : {T : Type 0} → Result T PutFault → Task → Own → Own → Phase → Type 0
Prepares (Ok value) t fresh spare p = Prepared t fresh spare p
Prepares (Err why) t fresh spare p = Fell why t (is_own spare) p

-- the old OUT is kept where it is to be
pub record IsKept (t : Task) (fresh spare : Own) (p : Phase) : Type 0 where
  pub kept : Kept
  pub taken : List (List ℕ)
  pub file : Bool
  pub out : Bool
  pub is : p ≡ under fresh spare kept taken file out false untouched
  pub done : is_kept t.keeps_old t.old kept ≡ true

abbrev pub Keeps : {T : Type 0} → Result T PutFault → Task → Own → Own → Phase → Type 0
Keeps (Ok value) t fresh spare p = IsKept t fresh spare p
Keeps (Err why) t fresh spare p = Fell why t (is_own spare) p

-- OUT.left has the bodies
pub record Raised (t : Task) (p : Phase) : Type 0 where
  pub kept : Kept
  pub taken : List (List ℕ)
  pub is : p ≡ under (has t.text true) nothing kept taken true true true grown
  pub done : is_kept t.keeps_old t.old kept ≡ true

abbrev pub Raises : {T : Type 0} → Result T PutFault → Task → Phase → Type 0
Raises (Ok value) t p = Raised t p
Raises (Err why) t p = Fell why t true p

-- OUT has the text; or OUT.left has the bodies still
abbrev pub Closes : {T E : Type 0} → Result T E → Task → Kept → List (List ℕ) → Phase → Type 0
Closes (Ok value) t kept taken p = Finishes p
Closes (Err fault) t kept taken p = (left : LeftIs) × (is_grown left ≡ true) × (p ≡ under (has t.text true) nothing kept taken true true true left)

-- OUT.left can't be put back
pub record Stuck (t : Task) (before now : ℕ) (p : Phase) : Type 0 where
  pub owns : Bool
  pub locked : is_own p.fresh ≡ true
  pub spare : is_own p.spare ≡ owns
  pub strays : p.strays ≡ false
  pub put : p.is_put ≡ false
  pub left : is_grown p.left ≡ true
  pub fault : count_again t p before ≤ now
  pub again : owns ≡ true → next_count (count_again t p before) ≤ now

abbrev pub Undoes : {T E : Type 0} → Result T E → Task → Kept → List (List ℕ) → ℕ → ℕ → Phase → Type 0
Undoes (Ok value) t kept taken before now p = p ≡ under (has t.text true) nothing kept taken true true true undone
Undoes (Err fault) t kept taken before now p = Stuck t before now p

-- OUT has the text; or what the call made under its lock is away, or the store failed once more
pub record Falls (why : PutFault) (t : Task) (before now : ℕ) (p : Phase) : Type 0 where
  pub owns : Bool
  pub fell : Fell why t owns p
  pub fault : least_in why t p before ≤ now
  pub again : owns ≡ true → next_count (least_in why t p before) ≤ now

abbrev pub Fills : {T : Type 0} → Result T PutFault → Task → ℕ → ℕ → Phase → Type 0
Fills (Ok value) t before now p = Finishes p
Fills (Err why) t before now p = Falls why t before now p

abbrev pub Rewrites : {T E : Type 0} → Result T E → Task → Kept → List (List ℕ) → LeftIs → Phase → Type 0
Rewrites (Ok value) t kept taken left p = p ≡ under (has t.text true) nothing kept taken true true true undone
Rewrites (Err fault) t kept taken left p = (own : Own) × (is_own own ≡ true) × (p ≡ under (has t.text true) own kept taken true true true left)
