-- What bytes are: the text of a schedule, or a text with a first line at fault.
use Rattle.std.specs.Prelude.{◌≡◌, ◌≢◌, ℕ, ◌+◌, ◌<◌, ◌≤◌, ◌^◌, ⊤, List, [], ◌++◌, length, Result, Ok, Err}
use Rattle.std.specs.List.{AllByRecursion}
use Rattle.pb_text.specs.declared.limits.TheConstants.{MOST_EVENTS}
use Rattle.pb_sched.specs.declared.fault.ScheduleFault.{ScheduleFault}
use Rattle.pb_sched.specs.declared.fault.ScheduleFault.TheVariants.{BadLine, TooMany, NoMemory}
use Rattle.pb_sched.specs.declared.format.Format.{Format}
use Rattle.pb_sched.specs.declared.schedule.Turn.{Turn}
use Rattle.pb_sched.specs.declared.schedule.Schedule.{Schedule}
use Rattle.pb_sched.specs.Formats.{head_line, seed_line, turn_line, layout, IsTurn}

-- the bytes are the layout of a schedule of at most 1,000,000 events, and then the rest
pub record BeginsWith (bytes : List ℕ) (format : Format) (seed : ℕ) (turns : List Turn) (rest : List ℕ) : Type 0 where
  pub is : bytes ≡ layout format seed turns ++ rest
  pub seed_fits : seed < 2 ^ 64
  pub each : AllByRecursion (IsTurn format) turns
  pub most : length turns ≤ MOST_EVENTS

-- the bytes are the layout of this schedule, in one of the formats
abbrev pub IsSchedule : List ℕ → ℕ → List Turn → Type 0
IsSchedule bytes seed turns = (format : Format) × BeginsWith bytes format seed turns []

-- a line of an event stands in front
pub record BeginsTurn (format : Format) (text : List ℕ) : Type 0 where
  pub turn : Turn
  pub rest : List ℕ
  pub is : text ≡ turn_line format turn ++ rest
  pub fits : IsTurn format turn

-- line n is the first that isn't in the form: the lines before it are, and it isn't, or it is missing and one of the first two
pub data IsBadLine (bytes : List ℕ) (n : ℕ) : Type 0 where
  bad_head : n ≡ 1 → ((format : Format) (rest : List ℕ) → bytes ≢ head_line format ++ rest) → IsBadLine bytes n
  bad_seed : (format : Format) (rest : List ℕ) → n ≡ 2 → bytes ≡ head_line format ++ rest
      → ((seed : ℕ) (after : List ℕ) → seed < 2 ^ 64 → rest ≢ seed_line seed ++ after) → IsBadLine bytes n
  bad_event : (format : Format) (seed : ℕ) (turns : List Turn) (rest : List ℕ) → n ≡ length turns + 3 → BeginsWith bytes format seed turns rest
      → rest ≢ [] → (BeginsTurn format rest → ⊥) → IsBadLine bytes n

-- line n is that of event 1,000,001, and the lines up to it are in the form
pub data IsTooMany (bytes : List ℕ) (n : ℕ) : Type 0 where
  beyond : (format : Format) (seed : ℕ) (turns : List Turn) (rest : List ℕ) → n ≡ length turns + 3 → BeginsWith bytes format seed turns rest
      → length turns ≡ MOST_EVENTS → BeginsTurn format rest → IsTooMany bytes n

pub data Outcome : Type 0 where
  schedule : (seed : ℕ) (turns : List Turn) → Outcome
  bad_line : (n : ℕ) → Outcome
  too_many : (n : ℕ) → Outcome

abbrev pub IsOutcome : List ℕ → Outcome → Type 0
IsOutcome bytes (schedule seed turns) = IsSchedule bytes seed turns
IsOutcome bytes (bad_line n) = IsBadLine bytes n
IsOutcome bytes (too_many n) = IsTooMany bytes n

-- bytes have one outcome at most
abbrev pub OneOutcome : Type 0
OneOutcome = (bytes : List ℕ) (a b : Outcome) → IsOutcome bytes a → IsOutcome bytes b → a ≡ b

-- want of memory says nothing of the bytes
abbrev pub IsFault : List ℕ → ScheduleFault → Type 0
IsFault bytes (BadLine n) = IsBadLine bytes n
IsFault bytes (TooMany n) = IsTooMany bytes n
IsFault bytes NoMemory = ⊤

-- it is read as this schedule, or memory ran out
abbrev pub IsReadAs : ℕ → List Turn → Result Schedule ScheduleFault → Type 0
IsReadAs seed turns (Ok s) = (s.seed ≡ seed) × (s.turns.items ≡ turns)
IsReadAs seed turns (Err fault) = fault ≡ NoMemory
