-- Why OUT isn't renewed.
use Rattle.std.specs.Prelude.{◌≡◌, ◌≢◌, ◌⊎◌, ℕ, ◌≤◌, List, Option, Some, IfSome, IsSome, is_some, true, ⊤}
use Rattle.pb_io.specs.Faults.{Rose}
use Rattle.pb_io.specs.Files.{File, content_of, file_of}
use Rattle.pb_renew_text.specs.declared.wanted.Wanted.{Wanted}
use Rattle.pb_cli_status.specs.Lines as Lines
use Rattle.pb_cli_status.specs.declared.refusal.Refusal.{Refusal}
use Rattle.pb_cli_status.specs.declared.refusal.Refusal.TheVariants as refusal
use Rattle.pb_cli_file.specs.Files.{IsFileRefusal}
use Rattle.pabble_renew.specs.Wanted.{IsWantedOf}
use Rattle.pb_renew.specs.Places.{IsNoPlace}
use Rattle.pb_renew.specs.Reasons.{IsReasonWith, WhereGone}
use Rattle.pb_renew.specs.declared.unrenewed.Unrenewed.{Unrenewed}
use Rattle.pb_renew.specs.declared.unrenewed.Unrenewed.TheVariants as why
use Rattle.pb_renew_put.specs.Names.{is_written, left_name, new_name, old_file, spare_name}
use Rattle.pb_renew_put.specs.Puts.{HasFailed}
use Rattle.pb_renew_put.specs.declared.fault.PutFault.TheVariants as put
use Rattle.pabble_renew.specs.Asked.{Asked}
use Rattle.pabble_renew.specs.declared.fault.Fault.{Fault}
use Rattle.pabble_renew.specs.declared.fault.Fault.TheVariants as fault

-- what the store and the folder had when the call began, and how often each had failed then, and when it ended
pub record Scene : Type 0 where
  pub store : Option (List File)
  pub folder : Option (List File)
  pub failed : ℕ
  pub failed_now : ℕ
  pub unread : ℕ
  pub unread_now : ℕ

-- the store and the folder tell alike whether OUT and OUT.left are there
pub record TellAlike (out : List ℕ) (now files : List File) : Type 0 where
  pub text : is_some (file_of now out) ≡ is_some (file_of files out)
  pub left : is_some (file_of now (left_name out)) ≡ is_some (file_of files (left_name out))

-- so it is where the store and the folder tell their files, and tell alike of those two
abbrev pub WhereAlike : Asked → Scene → (List File → List File → Type 0) → Type 0
WhereAlike a s P = IfSome s.store (λ now. IfSome s.folder (λ files. TellAlike a.out now files → P now files))

-- FILE is accepted, and this is why the text of its tree can't be put in the place of OUT
abbrev pub IsReasonAt : Unrenewed → Asked → Scene → Type 0
IsReasonAt reason a s =
    (wanted : Wanted) × IsWantedOf a.file s.folder wanted
    × WhereAlike a s (λ now files. IsReasonWith a.losing (content_of files a.out) (content_of files (left_name a.out)) wanted reason)

-- FILE is accepted, and bodies are gone in a text of its tree
abbrev pub WhereBodiesGo : Asked → List File → Type 0
WhereBodiesGo a files = (wanted : Wanted) × IsWantedOf a.file (Some files) wanted × WhereGone (content_of files a.out) wanted (λ renewed. ⊤)

-- one of the three files isn't in the store as the folder tells; of OUT.left that matters where bodies go there
abbrev pub IsChanged : Asked → List File → List File → Type 0
IsChanged a now files =
    (file_of now a.file ≢ Some (content_of files a.file)) ⊎ (file_of now a.out ≢ file_of files a.out)
    ⊎ ((file_of now (left_name a.out) ≢ file_of files (left_name a.out)) × WhereBodiesGo a files)

abbrev pub IsOutCause : Unrenewed → Asked → Scene → Type 0
IsOutCause why.ReadFault a s = Rose s.failed s.failed_now ⊎ Rose s.unread s.unread_now
IsOutCause why.NoFile a s = IfSome s.store (λ now. ⊥)
IsOutCause why.Shared a s = IfSome s.store (λ now. ⊥)
IsOutCause why.TooLong a s = IsReasonAt why.TooLong a s
IsOutCause why.NoMemory a s = ⊤
IsOutCause (why.Indented line) a s = IsReasonAt (why.Indented line) a s
IsOutCause (why.Out at) a s = IsReasonAt (why.Out at) a s
IsOutCause (why.Outside line) a s = IsReasonAt (why.Outside line) a s
IsOutCause (why.LeftIndented line) a s = IsReasonAt (why.LeftIndented line) a s
IsOutCause (why.Left at) a s = IsReasonAt (why.Left at) a s
IsOutCause why.Busy a s = IfSome s.store (λ now. IsSome (file_of now (new_name a.out)) ⊎ IsSome (file_of now (spare_name a.out)))
IsOutCause why.Changed a s = WhereAlike a s (IsChanged a)
IsOutCause why.Olds a s = IfSome s.store (λ now. (number : ℕ) → 1 ≤ number → number ≤ 9999 → IsSome (file_of now (old_file a.out number)))
IsOutCause why.WriteFault a s = Rose s.failed s.failed_now
IsOutCause why.Halfway a s = HasFailed put.Halfway s.store s.failed s.failed_now

abbrev pub IsFileCause : Refusal → Asked → Scene → Type 0
IsFileCause it a s =
    IsFileRefusal a.file s.folder (Lines.status_of it) (Lines.line_of it) × (it ≡ refusal.ReadFault → Rose s.failed s.failed_now ⊎ Rose s.unread s.unread_now)

abbrev pub IsCause : Fault → Asked → Scene → Type 0
IsCause fault.Usage a s = ⊥
IsCause fault.Written a s = IfSome s.store (λ now. is_written a.out a.file ≡ true)
IsCause fault.NoMemory a s = ⊤
IsCause fault.NoFile a s = IfSome s.store (λ now. ⊥)
IsCause (fault.File it) a s = IsFileCause it a s
IsCause (fault.Out reason) a s = IsOutCause reason a s

-- what of these the store alone tells
abbrev pub IsStoreCause : Fault → List ℕ → List ℕ → Option (List File) → ℕ → ℕ → Type 0
IsStoreCause fault.Usage file out holds before now = ⊥
IsStoreCause fault.Written file out holds before now = IfSome holds (λ files. is_written out file ≡ true)
IsStoreCause fault.NoMemory file out holds before now = ⊤
IsStoreCause fault.NoFile file out holds before now = IfSome holds (λ files. ⊥)
IsStoreCause (fault.File it) file out holds before now = (it ≡ refusal.ReadFault) × Rose before now
IsStoreCause (fault.Out reason) file out holds before now = IsNoPlace reason holds before now
