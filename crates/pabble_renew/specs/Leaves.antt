-- What a call leaves of OUT and of the files beside it.
use Rattle.std.specs.Prelude.{◌≡◌, ◌⊎◌, ℕ, true, false, List, Option, None, Some, IfSome, IsSome}
use Rattle.pb_io.specs.Files.{File, file_of}
use Rattle.pb_renew_text.specs.declared.wanted.Wanted.{Wanted}
use Rattle.pabble_renew.specs.Wanted.{IsWantedOf}
use Rattle.pb_renew.specs.Faults.{unput}
use Rattle.pb_renew.specs.Plans.{Fits}
use Rattle.pb_renew.specs.Renewing.{Renews}
use Rattle.pb_renew.specs.declared.losing.Losing.TheVariants as losing
use Rattle.pb_renew.specs.declared.unrenewed.Unrenewed.{Unrenewed}
use Rattle.pb_renew.specs.declared.unrenewed.Unrenewed.TheVariants as why
use Rattle.pb_renew_merge.specs.declared.renewed.Renewed.{Renewed}
use Rattle.pb_renew_put.specs.Ends.{Finishes, Stops}
use Rattle.pb_renew_put.specs.Jobs.{Task}
use Rattle.pb_renew_put.specs.Names.{is_old_name, is_written, left_name, new_name}
use Rattle.pb_renew_put.specs.Phases.{Leads, Phase, start}
use Rattle.pb_renew_put.specs.Puts.{Fails}
use Rattle.pb_renew_put.specs.declared.fault.PutFault.{PutFault}
use Rattle.pb_renew_put.specs.declared.fault.PutFault.TheVariants as put
use Rattle.pb_renew_store.specs.Changes.{KeepsFile, Turns}
use Rattle.pb_renew_store.specs.Deeds.{Deed, DidNothing}
use Rattle.pabble_renew.specs.Asked.{Asked}
use Rattle.pabble_renew.specs.declared.doing.Doing.{Doing}
use Rattle.pabble_renew.specs.declared.doing.Doing.TheVariants as doing
use Rattle.pabble_renew.specs.declared.fault.Fault.{Fault}
use Rattle.pabble_renew.specs.declared.fault.Fault.TheVariants as fault

-- FILE is none of the files that are written, it is there and accepted, and OUT is renewed with one of the trees that may be printed
-- for the bytes that FILE has
pub record RenewsFile (file out : List ℕ) (old new : List File) : Type 0 where
  pub apart : is_written out file ≡ false
  pub bytes : List ℕ
  pub there : file_of old file ≡ Some bytes
  pub wanted : Wanted
  pub compiled : IsWantedOf file (Some old) wanted
  pub renewed : Renews out wanted old new

-- what is done is that; or nothing at all, where no other call is at work
abbrev pub Achieves : Doing → List ℕ → List ℕ → Option (List File) → Option (List File) → Type 0
Achieves doing.Renew file out old new = Turns old new (RenewsFile file out)
Achieves doing.Tell file out old new = (new ≡ old) × IfSome old (λ files. file_of files (new_name out) ≡ None)

pub record KeepsBoth (out : List ℕ) (old new : List File) : Type 0 where
  pub text : KeepsFile out old new
  pub left : KeepsFile (left_name out) old new

-- OUT is as it was, and OUT.left has the bodies that are gone in a text that fits, behind what it had
pub record Halves (out : List ℕ) (old new : List File) : Type 0 where
  pub wanted : Wanted
  pub renewed : Renewed
  pub task : Task
  pub at : task.out ≡ out
  pub fits : Fits wanted renewed task
  pub fails : Fails put.Halfway task old new

-- behind a fault both are as they were, but halfway
abbrev pub SparesOut : Unrenewed → List ℕ → List File → List File → Type 0
SparesOut why.Halfway out old new = Halves out old new
SparesOut other out old new = KeepsBoth out old new

abbrev pub Spares : Fault → List ℕ → Option (List File) → Option (List File) → Type 0
Spares (fault.Out reason) out old new = Turns old new (SparesOut reason out)
Spares other out old new = new ≡ old

-- each file but OUT and the files beside it is as it was; of those that may keep an old OUT each that was there; and all of them, where
-- no line may be lost
pub record SparesRest (a : Asked) (old new : List File) : Type 0 where
  pub others : (other : List ℕ) → is_written a.out other ≡ false → is_old_name a.out other ≡ false → KeepsFile other old new
  pub olds : (other : List ℕ) (bytes : List ℕ) → is_old_name a.out other ≡ true → file_of old other ≡ Some bytes → file_of new other ≡ Some bytes
  pub unkept : a.losing ≡ losing.Refused → (other : List ℕ) → is_old_name a.out other ≡ true → KeepsFile other old new

-- ---- what it did in the store

-- what a call may do that puts a text which fits, and it ended so
pub record Works (a : Asked) (old_deeds new_deeds : Option (List Deed)) (old new : Option (List File)) (End : Task → Phase → Type 0) : Type 0 where
  pub wanted : Wanted
  pub renewed : Renewed
  pub task : Task
  pub file : task.file ≡ a.file
  pub out : IfSome old (λ files. task.out ≡ a.out)
  pub fits : Fits wanted renewed task
  pub leads : Leads task start old_deeds new_deeds old new (End task)

-- it stopped with this fault, and so many failed calls had been counted then
abbrev pub StopsWith : Fault → ℕ → Task → Phase → Type 0
StopsWith why now task p = (reason : PutFault) × (why ≡ fault.Out (unput reason)) × (before : ℕ) × Stops reason task before now p

-- nothing; or that
abbrev pub DidSo : Asked → Option (List Deed) → Option (List Deed) → Option (List File) → Option (List File) → Doing → (Task → Phase → Type 0) → Type 0
DidSo a old_deeds new_deeds old new doing.Tell End = DidNothing old_deeds new_deeds old new
DidSo a old_deeds new_deeds old new doing.Renew End = Works a old_deeds new_deeds old new End

-- where it is done, and where it isn't
abbrev pub DidAll : Asked → Option (List Deed) → Option (List Deed) → Option (List File) → Option (List File) → Type 0
DidAll a old_deeds new_deeds old new = DidSo a old_deeds new_deeds old new a.doing (λ task p. Finishes p)

abbrev pub DidSome : Fault → ℕ → Asked → Option (List Deed) → Option (List Deed) → Option (List File) → Option (List File) → Type 0
DidSome why now a old_deeds new_deeds old new = DidNothing old_deeds new_deeds old new ⊎ DidSo a old_deeds new_deeds old new a.doing (StopsWith why now)

-- a call that meets the lock changes nothing
abbrev pub MeetsLock : List ℕ → Option (List File) → Option (List File) → Type 0
MeetsLock out old new = Turns old new (λ a b. IsSome (file_of a (new_name out)) → b ≡ a)
