-- How a call ends.
use Rattle.std.specs.Prelude.{◌≡◌, ◌⊎◌, ℕ, true, false, List, Option, None, Some}
use Rattle.pb_cli_status.specs.Codes as Codes
use Rattle.pb_cli_status.specs.Lines as Lines
use Rattle.pb_cli_status.specs.declared.status.Status.TheVariants as status
use Rattle.pb_io.specs.Files.{File}
use Rattle.pb_renew.specs.declared.unrenewed.Unrenewed.{Unrenewed}
use Rattle.pb_renew.specs.declared.unrenewed.Unrenewed.TheVariants as why
use Rattle.pb_renew_put.specs.Names.{is_written}
use Rattle.pb_renew_store.specs.Changes.{Turns}
use Rattle.pb_renew_store.specs.Deeds.{Deed, DidNothing}
use Rattle.pabble_renew.specs.Asked.{Asked}
use Rattle.pabble_renew.specs.Causes.{IsCause, Scene}
use Rattle.pabble_renew.specs.Leaves.{Achieves, DidAll, DidSome, MeetsLock, Spares, SparesRest}
use Rattle.pabble_renew.specs.declared.ending.Ending.{Ending}
use Rattle.pabble_renew.specs.declared.ending.Ending.TheVariants as ending
use Rattle.pabble_renew.specs.declared.fault.Fault.{Fault}
use Rattle.pabble_renew.specs.declared.fault.Fault.TheVariants as fault

-- the number with which the program ends
abbrev pub code_of : Ending → ℕ
code_of (ending.Ended it) = Codes.code_of it
code_of ending.Again = 75

abbrev pub ending_in : Unrenewed → Ending
ending_in why.ReadFault = ending.Ended status.ReadFault
ending_in why.NoFile = ending.Ended status.ReadFault
ending_in why.Shared = ending.Ended status.WriteFault
ending_in why.TooLong = ending.Ended status.Limit
ending_in why.NoMemory = ending.Ended status.NoMemory
ending_in (why.Indented line) = ending.Ended status.Kernel
ending_in (why.Out at) = ending.Ended status.Kernel
ending_in (why.Outside line) = ending.Ended status.Kernel
ending_in (why.LeftIndented line) = ending.Ended status.Kernel
ending_in (why.Left at) = ending.Ended status.Kernel
ending_in why.Busy = ending.Again
ending_in why.Changed = ending.Again
ending_in why.Olds = ending.Ended status.WriteFault
ending_in why.WriteFault = ending.Ended status.WriteFault
ending_in why.Halfway = ending.Ended status.WriteFault

abbrev pub ending_of : Fault → Ending
ending_of fault.Usage = ending.Ended status.Usage
ending_of fault.Written = ending.Ended status.Usage
ending_of fault.NoMemory = ending.Ended status.NoMemory
ending_of fault.NoFile = ending.Ended status.ReadFault
ending_of (fault.File it) = ending.Ended (Lines.status_of it)
ending_of (fault.Out reason) = ending_in reason

-- all is done
pub record IsDone (a : Asked) (old_deeds new_deeds : Option (List Deed)) (old new : Option (List File)) : Type 0 where
  pub apart : is_written a.out a.file ≡ false
  pub achieves : Achieves a.doing a.file a.out old new
  pub deeds : DidAll a old_deeds new_deeds old new

-- it isn't, for this cause
pub record IsUndone (it : Fault) (a : Asked) (s : Scene) (old_deeds new_deeds : Option (List Deed)) (new : Option (List File)) : Type 0 where
  pub cause : IsCause it a s
  pub spares : Spares it a.out s.store new
  pub lock : it ≡ fault.Out why.Busy → MeetsLock a.out s.store new
  pub deeds : (now : ℕ) × DidSome it now a old_deeds new_deeds s.store new

abbrev pub EndsBy : Ending → Asked → Scene → Option (List Deed) → Option (List Deed) → Option (List File) → Type 0
EndsBy it a s old_deeds new_deeds new =
    ((it ≡ ending.Ended status.Done) × IsDone a old_deeds new_deeds s.store new)
    ⊎ ((cause : Fault) × (it ≡ ending_of cause) × IsUndone cause a s old_deeds new_deeds new)

-- what comes of a request, and how the call ends then
pub record Answers (it : Ending) (a : Asked) (s : Scene) (old_deeds new_deeds : Option (List Deed)) (new : Option (List File)) : Type 0 where
  pub ends : EndsBy it a s old_deeds new_deeds new
  pub written : is_written a.out a.file ≡ true → (it ≡ ending.Ended status.Usage) ⊎ (it ≡ ending.Ended status.NoMemory)
  pub rest : Turns s.store new (SparesRest a)

-- words that are in no form ask for nothing
abbrev pub AnswersTo : Option Asked → Ending → Scene → Option (List Deed) → Option (List Deed) → Option (List File) → Type 0
AnswersTo None it s old_deeds new_deeds new = (it ≡ ending.Ended status.Usage) × DidNothing old_deeds new_deeds s.store new
AnswersTo (Some a) it s old_deeds new_deeds new = Answers it a s old_deeds new_deeds new
