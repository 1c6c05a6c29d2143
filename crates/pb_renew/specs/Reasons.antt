-- When a text isn't renewed.
use Rattle.std.specs.Prelude.{◌≡◌, ◌≢◌, ℕ, ◌<◌, ◌⊎◌, ⊤, List, [], Ok, Option, Some, IfSome, length}
use Rattle.pb_io.specs.Faults.{Rose}
use Rattle.pb_io.specs.Files.{File, content_of}
use Rattle.pb_renew_text.specs.declared.wanted.Wanted.{Wanted}
use Rattle.pb_kernels.specs.declared.fault.KernelFault.{KernelFault}
use Rattle.pb_kernels.specs.declared.fault.KernelFault.TheVariants.{Missing}
use Rattle.pb_kernels.specs.Files.{program_file}
use Rattle.pb_kernels.specs.Marks.{prelude_name}
use Rattle.pb_renew.specs.declared.losing.Losing.{Losing}
use Rattle.pb_renew.specs.declared.losing.Losing.TheVariants.{Refused}
use Rattle.pb_renew.specs.declared.unrenewed.Unrenewed.{Unrenewed}
use Rattle.pb_renew.specs.declared.unrenewed.Unrenewed.TheVariants as why
use Rattle.pb_renew_lines.specs.Lines.{first_indented}
use Rattle.pb_renew_lines.specs.Outside.{IsOutside}
use Rattle.pb_renew_lines.specs.declared.outside.Outside.TheVariants as outside
use Rattle.pb_renew_merge.specs.declared.renewed.Renewed.{Renewed}
use Rattle.pb_renew_merge.specs.Renewed.{IsLeft, IsLeftFault, IsRenewal, IsTextFault}

-- how many bytes OUT and OUT.left may have
abbrev pub most_bytes : ℕ
most_bytes = 67108864

-- there are bytes, and they are a kernel file without a body
pub record HasNoBody (bytes : List ℕ) : Type 0 where
  pub some : 0 < length bytes
  pub none : program_file bytes ≡ Ok []

-- why an OUT with these bytes can't be renewed: it is no kernel file, or has no body at all
abbrev pub IsOutFault : List ℕ → Wanted → KernelFault → Type 0
IsOutFault old wanted fault = IsTextFault old wanted fault ⊎ (HasNoBody old × (fault ≡ Missing prelude_name))

-- some bodies are gone in the text that renews it, and so it is with that text
abbrev pub WhereGone : List ℕ → Wanted → (Renewed → Type 0) → Type 0
WhereGone old wanted P = (renewed : Renewed) × IsRenewal old wanted renewed × (renewed.gone.items ≢ []) × P renewed

-- OUT has more bytes than it may, or would have; or a body is gone, and OUT.left has, or would have
abbrev pub IsTooLong : List ℕ → List ℕ → Wanted → Type 0
IsTooLong old left wanted =
    (most_bytes < length old)
    ⊎ ((renewed : Renewed) × IsRenewal old wanted renewed × (most_bytes < length renewed.text.items))
    ⊎ WhereGone old wanted (λ renewed. (most_bytes < length left) ⊎ ((new : List ℕ) × IsLeft renewed left new × (most_bytes < length new)))

-- why a file's bytes aren't there: the folder couldn't read it, or they are too many
abbrev pub IsNoContent : Unrenewed → List ℕ → Option (List File) → ℕ → ℕ → Type 0
IsNoContent why.ReadFault name holds before now = Rose before now
IsNoContent why.TooLong name holds before now = IfSome holds (λ files. most_bytes < length (content_of files name))
IsNoContent why.NoMemory name holds before now = ⊤
IsNoContent other name holds before now = ⊥

-- why there is no new text for an OUT with these bytes
abbrev pub IsNoRenewal : Unrenewed → List ℕ → Wanted → Type 0
IsNoRenewal why.NoMemory old wanted = ⊤
IsNoRenewal (why.Out fault) old wanted = IsOutFault old wanted fault
IsNoRenewal other old wanted = ⊥

-- why there are no new bytes for an OUT.left with these
abbrev pub IsNoLeft : Unrenewed → Losing → Renewed → List ℕ → Type 0
IsNoLeft why.TooLong losing renewed left = (new : List ℕ) × IsLeft renewed left new × (most_bytes < length new)
IsNoLeft why.NoMemory losing renewed left = ⊤
IsNoLeft (why.LeftIndented line) losing renewed left = (losing ≡ Refused) × (first_indented left ≡ Some line)
IsNoLeft (why.Left fault) losing renewed left = IsLeftFault renewed left fault
IsNoLeft other losing renewed left = ⊥

-- why lines of an OUT with these bytes would be lost
abbrev pub IsLosing : Unrenewed → Losing → List ℕ → Type 0
IsLosing why.NoMemory losing old = ⊤
IsLosing (why.Indented line) losing old = (losing ≡ Refused) × (first_indented old ≡ Some line)
IsLosing (why.Outside line) losing old = (losing ≡ Refused) × IsOutside old (outside.Line line)
IsLosing other losing old = ⊥

-- why the text of a tree can't be put in the place of an OUT with these bytes, beside an OUT.left with those
abbrev pub IsReasonWith : Losing → List ℕ → List ℕ → Wanted → Unrenewed → Type 0
IsReasonWith losing old left wanted why.ReadFault = ⊤
IsReasonWith losing old left wanted why.TooLong = IsTooLong old left wanted
IsReasonWith losing old left wanted why.NoMemory = ⊤
IsReasonWith losing old left wanted (why.Indented line) = (losing ≡ Refused) × (first_indented old ≡ Some line)
IsReasonWith losing old left wanted (why.Out fault) = IsOutFault old wanted fault
IsReasonWith losing old left wanted (why.Outside line) = (losing ≡ Refused) × IsOutside old (outside.Line line)
IsReasonWith losing old left wanted (why.LeftIndented line) = (losing ≡ Refused) × (first_indented left ≡ Some line) × WhereGone old wanted (λ renewed. ⊤)
IsReasonWith losing old left wanted (why.Left fault) = WhereGone old wanted (λ renewed. IsLeftFault renewed left fault)
IsReasonWith losing old left wanted other = ⊥

-- a plan isn't made for one of these reasons: the folder is at fault only where its count of faults rose, and no store is asked
abbrev pub IsRead : Unrenewed → ℕ → ℕ → Type 0
IsRead why.ReadFault before now = Rose before now
IsRead why.NoFile before now = ⊥
IsRead why.Shared before now = ⊥
IsRead why.TooLong before now = ⊤
IsRead why.NoMemory before now = ⊤
IsRead (why.Indented line) before now = ⊤
IsRead (why.Out fault) before now = ⊤
IsRead (why.Outside line) before now = ⊤
IsRead (why.LeftIndented line) before now = ⊤
IsRead (why.Left fault) before now = ⊤
IsRead why.Busy before now = ⊥
IsRead why.Changed before now = ⊥
IsRead why.Olds before now = ⊥
IsRead why.WriteFault before now = ⊥
IsRead why.Halfway before now = ⊥
