-- What is kept of a simulation while it is played: the lines of its log, or the events that were made.
use Rattle.std.specs.Prelude.{◌≡◌, ℕ, suc, ◌<◌, ◌≤◌, ℤ, Option, List, [], ◌∷◌, ◌++◌, length, map}
use Rattle.std.specs.Io.KnownBytes.{Appends}
use Rattle.pb_text.specs.declared.limits.TheConstants.{MOST_EVENTS}
use Rattle.pb_world.specs.Actions.{Action}
use Rattle.pb_ctree.specs.declared.tree.CTree.{CTree}
use Rattle.pb_local.specs.Tree.{Program, program_of}
use Rattle.pb_sched.specs.Logged.{log_line}
use Rattle.pb_sim.specs.declared.outcomes.StepDone.{StepDone}
use Rattle.pb_sim.specs.declared.outcomes.StepDone.TheVariants.{Silent, Did}
use Rattle.pb_sim.specs.declared.seen.Seen.{Seen}
use Rattle.pb_sim.specs.Scheduled.{Turn}
use Rattle.pb_cli_words.specs.declared.options.Shown.{Shown}
use Rattle.pb_cli_words.specs.declared.options.Shown.TheVariants as O
use Rattle.pb_sim_play.specs.declared.record.Record.{Record}
use Rattle.pb_sim_play.specs.declared.record.Record.TheVariants.{Lines, Turns}
use Rattle.pb_sim_play.specs.Plans.{Source, pair_of}
use Rattle.pb_sim_play.specs.Plays.{IsPlay, log_of}

-- the line of a step: none where it was silent
abbrev pub done_line : Program → StepDone → List ℕ
done_line p Silent = []
done_line p (Did action) = log_line p action

-- what is shown in the end
abbrev pub shown_by : Record → Shown
shown_by (Lines log) = O.Log
shown_by (Turns made) = O.Schedule

-- a schedule of so many events can be printed
abbrev pub IsShort : Record → Type 0
IsShort (Lines log) = Unit {0}
IsShort (Turns made) = length made.items ≤ MOST_EVENTS

-- these lines aren't written yet of what belongs to the output since the start
abbrev pub IsLog : Option (List ℕ) → List ℕ → Option (List ℕ) → List ℕ → Type 0
IsLog start lines now text = (written : List ℕ) × Appends start now written × (written ++ lines ≡ text)

-- Of these events and actions the record holds what wasn't written since the output stood at the start: the log's last lines,
-- or all events, of which nothing is written
abbrev pub Holds : Option (List ℕ) → Record → Option (List ℕ) → Program → List Turn → List (ℕ × Action) → Type 0
Holds start (Lines log) now p turns w = IsLog start log.lines.items now (log_of p w)
Holds start (Turns made) now p turns w = Appends start now [] × (map pair_of made.items ≡ turns)

-- a simulation has made so many events, and the record holds them
pub record HasPlayed (tree : CTree) (n : ℤ) (post : ℕ → ℕ → ℕ → Type 0) (source : Source) (start : Option (List ℕ)) (count : ℕ) (x : Seen) (kept : Record) (now : Option (List ℕ)) : Type 0 where
  pub turns : List Turn
  pub w : List (ℕ × Action)
  pub play : IsPlay tree n post source turns w x
  pub count_is : length turns ≡ count
  pub holds : Holds start kept now (program_of tree.local) turns w
