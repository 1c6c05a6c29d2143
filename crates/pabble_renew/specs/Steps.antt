-- What carrying out a plan comes to.
use Rattle.std.specs.Prelude.{◌≡◌, ℕ, Option, None, IfSome, IsSome, List, ⊤}
use Rattle.pb_io.specs.Faults.{Rose}
use Rattle.pb_io.specs.Files.{File, file_of}
use Rattle.pb_renew.specs.Faults.{unput}
use Rattle.pb_renew.specs.declared.unrenewed.Unrenewed.{Unrenewed}
use Rattle.pb_renew.specs.declared.unrenewed.Unrenewed.TheVariants as why
use Rattle.pb_renew_put.specs.Ends.{Finishes, Stops}
use Rattle.pb_renew_put.specs.Jobs.{Task}
use Rattle.pb_renew_put.specs.Names.{new_name}
use Rattle.pb_renew_put.specs.Phases.{Leads, start}
use Rattle.pb_renew_put.specs.Puts.{Fails, HasFailed, IsCauseIn, Puts}
use Rattle.pb_renew_put.specs.declared.fault.PutFault.{PutFault}
use Rattle.pb_renew_put.specs.declared.fault.PutFault.TheVariants as put
use Rattle.pb_renew_store.specs.Changes.{Turns}
use Rattle.pb_renew_store.specs.Deeds.{Deed, DidNothing}
use Rattle.pabble_renew.specs.Leaves.{KeepsBoth}
use Rattle.pabble_renew.specs.declared.doing.Doing.{Doing}
use Rattle.pabble_renew.specs.declared.doing.Doing.TheVariants as doing

-- the task is put; or nothing is done, and no lock is there
abbrev pub CarriesOut : Doing → Task → Option (List File) → Option (List File) → Type 0
CarriesOut doing.Renew t old new = Turns old new (Puts t)
CarriesOut doing.Tell t old new = (new ≡ old) × IfSome old (λ files. file_of files (new_name t.out) ≡ None)

abbrev pub Goes : Doing → Task → Option (List Deed) → Option (List Deed) → Option (List File) → Option (List File) → Type 0
Goes doing.Renew t old_deeds new_deeds old new = Leads t start old_deeds new_deeds old new Finishes
Goes doing.Tell t old_deeds new_deeds old new = DidNothing old_deeds new_deeds old new

-- it isn't, and both files are as they were, but halfway
abbrev pub FailsTo : Unrenewed → Task → List File → List File → Type 0
FailsTo why.Halfway t old new = Fails put.Halfway t old new
FailsTo other t old new = KeepsBoth t.out old new

pub record StopsBy (reason : Unrenewed) (t : Task) (old_deeds new_deeds : Option (List Deed)) (old new : Option (List File)) (now : ℕ) : Type 0 where
  pub fault : PutFault
  pub is : reason ≡ unput fault
  pub before : ℕ
  pub leads : Leads t start old_deeds new_deeds old new (Stops fault t before now)

abbrev pub StopsOr : Doing → Unrenewed → Task → Option (List Deed) → Option (List Deed) → Option (List File) → Option (List File) → ℕ → Type 0
StopsOr doing.Renew reason t old_deeds new_deeds old new now = StopsBy reason t old_deeds new_deeds old new now
StopsOr doing.Tell reason t old_deeds new_deeds old new now = DidNothing old_deeds new_deeds old new

abbrev pub IsPutCause : Unrenewed → Task → Option (List File) → ℕ → ℕ → Type 0
IsPutCause why.ReadFault t holds before now = Rose before now
IsPutCause why.NoFile t holds before now = ⊥
IsPutCause why.Shared t holds before now = ⊥
IsPutCause why.TooLong t holds before now = ⊥
IsPutCause why.NoMemory t holds before now = ⊤
IsPutCause (why.Indented line) t holds before now = ⊥
IsPutCause (why.Out at) t holds before now = ⊥
IsPutCause (why.Outside line) t holds before now = ⊥
IsPutCause (why.LeftIndented line) t holds before now = ⊥
IsPutCause (why.Left at) t holds before now = ⊥
IsPutCause why.Busy t holds before now = IfSome holds (IsCauseIn put.Busy t)
IsPutCause why.Changed t holds before now = IfSome holds (IsCauseIn put.Changed t)
IsPutCause why.Olds t holds before now = IfSome holds (IsCauseIn put.Olds t)
IsPutCause why.WriteFault t holds before now = Rose before now
IsPutCause why.Halfway t holds before now = HasFailed put.Halfway holds before now

-- why nothing is told to be done: the lock is there, or it can't be told
abbrev pub IsLockCause : Unrenewed → List ℕ → Option (List File) → ℕ → ℕ → Type 0
IsLockCause why.ReadFault out holds before now = Rose before now
IsLockCause why.NoMemory out holds before now = ⊤
IsLockCause why.Busy out holds before now = IfSome holds (λ files. IsSome (file_of files (new_name out)))
IsLockCause other out holds before now = ⊥
