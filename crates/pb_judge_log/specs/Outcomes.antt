-- What comes of reading a log.
use Rattle.std.specs.Prelude.{◌≡◌, ℕ, Bool, false, ◌||◌, ⊤, nat_eq, List, length, codes, Option, Some, None, Result, Ok, Err}
use Rattle.std.specs.Cmp.Lexicographic.{pointwise}
use Rattle.pb_text.specs.declared.action.Action.{Action}
use Rattle.pb_core_language.specs.Lists.{is_empty}
use Rattle.pb_local.specs.Tree.{Program}
use Rattle.pb_text_read.specs.Fronts.{◌>>=◌, strip}
use Rattle.pb_judge_log.specs.declared.fault.LogFault.{LogFault}
use Rattle.pb_judge_log.specs.declared.fault.LogFault.TheVariants.{BadLine, NoMemory}
use Rattle.pb_judge_log.specs.Entries.{BeginsWith, IsBadLine, line_number, numbered}
use Rattle.pb_judge_log.specs.Reading.{entry_in, fields, line_at}

-- want of memory says nothing of the bytes
abbrev pub IsFault : Program → ℕ → List ℕ → LogFault → Type 0
IsFault p total bytes (BadLine n) = IsBadLine p total bytes n
IsFault p total bytes NoMemory = ⊤

-- it is read as these entries, or memory ran out
abbrev pub IsReadAs : List (ℕ × Action) → Result (List (ℕ × Action)) LogFault → Type 0
IsReadAs entries (Ok log) = log ≡ entries
IsReadAs entries (Err fault) = fault ≡ NoMemory

abbrev pub entry_at : Program → ℕ → List ℕ → Option (Action × List ℕ)
entry_at p total text = line_at text >>= λ line. entry_in p total (fields line.0) >>= λ action. Some (action, line.1)

-- actions were read in front of a text, as entries, and the rest is that from the line with a number on
pub record Reads (p : Program) (total : ℕ) (text : List ℕ) (entries : List (ℕ × Action)) (number : ℕ) (rest : List ℕ) : Type 0 where
  pub actions : List Action
  pub begins : BeginsWith p total text actions rest
  pub entries_are : entries ≡ numbered actions
  pub number_is : number ≡ line_number p total (length actions)

-- and no action stands in front of that rest
pub record Stops (p : Program) (total : ℕ) (text : List ℕ) (entries : List (ℕ × Action)) (number : ℕ) (rest : List ℕ) : Type 0 where
  pub reads : Reads p total text entries number rest
  pub none : entry_at p total rest ≡ None

abbrev pub is_last : Option (List ℕ × List ℕ) → Bool
is_last None = false
is_last (Some line) = is_empty line.1

abbrev pub told : Option (List ℕ) → Bool
told None = false
told (Some text) = is_last (line_at text)

-- nothing is left, or the line `ended`, or one that begins with `pabble: `
abbrev pub ends : List ℕ → Bool
ends rest = is_empty rest || (pointwise nat_eq rest (codes "ended\n") || told (strip (codes "pabble: ") rest))
