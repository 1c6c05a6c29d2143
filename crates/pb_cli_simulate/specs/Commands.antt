-- What the commands `sim` and `replay` answer.
use Rattle.std.specs.Prelude.{◌≡◌, ℕ, ◌<◌, ◌≤◌, ◌⊎◌, List, length, map, Option, IfSome}
use Rattle.pb_text.specs.declared.limits.TheConstants.{MOST_TEXT_BYTES}
use Rattle.pb_text.specs.declared.quantity.Quantity.TheVariants as quantity
use Rattle.pb_io.specs.Files.{File, content_of}
use Rattle.pb_ctree.specs.declared.tree.CTree.{CTree}
use Rattle.pb_cli_status.specs.Lines.{line_of, status_of}
use Rattle.pb_cli_status.specs.declared.refusal.Refusal.{Refusal}
use Rattle.pb_cli_status.specs.declared.refusal.Refusal.TheVariants as refusal
use Rattle.pb_cli_status.specs.declared.status.Status.{Status}
use Rattle.pb_sched.specs.Outcomes.{IsSchedule}
use Rattle.pb_sched.specs.declared.schedule.Turn.{Turn}
use Rattle.pb_cli_words.specs.declared.options.Options.{Options}
use Rattle.pb_cli_words.specs.declared.options.Shown.TheVariants.{Log}
use Rattle.pb_sim_play.specs.Plans.{drawn, given, pair_of}
use Rattle.pb_cli_status.specs.Written.{Says}
use Rattle.pb_cli_simulate.specs.Replies.{SaysReply}
use Rattle.pb_cli_simulate.specs.Sources.{IsTextOf, IsNoText, IsNoSchedule}

-- where the folder tells the file's bytes they are such, and few enough
abbrev pub OnFile : List ℕ → Option (List File) → (List ℕ → Type 0) → Type 0
OnFile name holds P = IfSome holds (λ files. P (content_of files name))

abbrev pub OnShort : List ℕ → Option (List File) → (List ℕ → Type 0) → Type 0
OnShort name holds P = OnFile name holds (λ bytes. (length bytes ≤ MOST_TEXT_BYTES) × P bytes)

-- why a file isn't taken: it can't be read, it has too many bytes, what it has is refused so, or memory is wanting
abbrev pub IsUntaken : (List ℕ → Refusal → Type 0) → List ℕ → Option (List File) → Refusal → Type 0
IsUntaken IsRefused name holds refusal.ReadFault = Unit {0}
IsUntaken IsRefused name holds refusal.NoMemory = Unit {0}
IsUntaken IsRefused name holds refusal.FileBytes = OnFile name holds (λ bytes. MOST_TEXT_BYTES < length bytes)
IsUntaken IsRefused name holds (refusal.Text place) = OnShort name holds (λ bytes. IsRefused bytes (refusal.Text place))
IsUntaken IsRefused name holds (refusal.Limit limit place) = OnShort name holds (λ bytes. IsRefused bytes (refusal.Limit limit place))
IsUntaken IsRefused name holds (refusal.Schedule line) = OnShort name holds (λ bytes. IsRefused bytes (refusal.Schedule line))
IsUntaken IsRefused name holds refusal.Events = OnShort name holds (λ bytes. IsRefused bytes refusal.Events)
IsUntaken IsRefused name holds other = ⊥

-- the refusals that come of a text and of a schedule, whatever their bytes are
abbrev pub IsOfText : Refusal → Type 0
IsOfText refusal.ReadFault = Unit {0}
IsOfText refusal.NoMemory = Unit {0}
IsOfText refusal.FileBytes = Unit {0}
IsOfText (refusal.Text place) = Unit {0}
IsOfText (refusal.Limit limit place) = (limit ≡ quantity.TextNesting) ⊎ (limit ≡ quantity.TextStatements)
IsOfText other = ⊥

abbrev pub IsOfSchedule : Refusal → Type 0
IsOfSchedule refusal.ReadFault = Unit {0}
IsOfSchedule refusal.NoMemory = Unit {0}
IsOfSchedule refusal.FileBytes = Unit {0}
IsOfSchedule (refusal.Schedule line) = Unit {0}
IsOfSchedule refusal.Events = Unit {0}
IsOfSchedule other = ⊥

-- a file isn't taken for this, which is of its kind, and a read fault only where the file couldn't be read
pub record IsDenied (IsOf : Refusal → Type 0) (IsRefused : List ℕ → Refusal → Type 0) (unread : List ℕ → Type 0) (name : List ℕ) (holds : Option (List File)) (why : Refusal) : Type 0 where
  pub kind : IsOf why
  pub read : why ≡ refusal.ReadFault → unread name
  pub untaken : IsUntaken IsRefused name holds why

-- one line tells it
abbrev pub Refuses : (Refusal → Type 0) → Status → Option (List ℕ) → Option (List ℕ) → Type 0
Refuses Why result old new = (why : Refusal) × Why why × Says (status_of why) (line_of why) result old new

-- The text isn't taken, and one line tells it; or it is that of a tree, and the simulation of the tree is told. `unread` says of
-- which file it can be that it couldn't be read
abbrev pub SaysSim : (ℕ → ℕ → ℕ → ℕ → Type 0) → (List ℕ → Type 0) → List ℕ → Options → Option (List File) → Status → Option (List ℕ) → Option (List ℕ) → Type 0
SaysSim post unread name options holds result old new =
    Refuses (IsDenied IsOfText IsNoText unread name holds) result old new
    ⊎ ((tree : CTree) × OnShort name holds (λ bytes. IsTextOf bytes tree)
    × SaysReply tree options.n (post options.seed) (drawn options.seed options.modes) options.turns options.shown options.seed result old new)

-- The text isn't taken, or then the schedule isn't; or they are those of a tree and of a seed and events, and the simulation of
-- the tree by these is told
abbrev pub SaysReplay : (ℕ → ℕ → ℕ → ℕ → Type 0) → (List ℕ → Type 0) → List ℕ → List ℕ → ℕ → Option (List File) → Status → Option (List ℕ) → Option (List ℕ) → Type 0
SaysReplay post unread name schedule n holds result old new =
    Refuses (IsDenied IsOfText IsNoText unread name holds) result old new
    ⊎ ((tree : CTree) × OnShort name holds (λ bytes. IsTextOf bytes tree)
    × (Refuses (IsDenied IsOfSchedule IsNoSchedule unread schedule holds) result old new
    ⊎ ((seed : ℕ) × (turns : List Turn) × OnShort schedule holds (λ bytes. IsSchedule bytes seed turns)
    × SaysReply tree n (post seed) (given (map pair_of turns)) (length turns) Log 0 result old new)))
