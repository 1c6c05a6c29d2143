-- The status and the last line of each ending.
use Rattle.std.specs.Prelude.{ℕ, ◌+◌, ◌≤◌, List, [], ◌∷◌, ◌++◌, codes, decimal}
use Rattle.std.specs.List.{flat_map}
use Rattle.pb_text.specs.declared.limits.TheConstants.{MOST_EVENTS}
use Rattle.pb_local.specs.Tables.{label_at}
use Rattle.pb_local.specs.Tree.{Program}
use Rattle.pb_cli_words.specs.declared.options.Shown.{Shown}
use Rattle.pb_cli_words.specs.declared.options.Shown.TheVariants as O
use Rattle.pb_cli_status.specs.Lines.{line_of}
use Rattle.pb_cli_status.specs.declared.refusal.Refusal.TheVariants as refusal
use Rattle.pb_cli_status.specs.declared.status.Status.{Status}
use Rattle.pb_cli_status.specs.declared.status.Status.TheVariants as S
use Rattle.pb_sim.specs.declared.standing.Cause.{Cause}
use Rattle.pb_sim.specs.declared.standing.Cause.TheVariants as C
use Rattle.pb_sim_play.specs.declared.ending.Ending.{Ending}
use Rattle.pb_sim_play.specs.declared.ending.Ending.TheVariants as E

abbrev pub name_of : Program → ℕ → List ℕ
name_of p label = (label_at p label).name

-- parts of a line, one after the other
abbrev pub joined : List (List ℕ) → List ℕ
joined parts = flat_map (λ part. part) parts

abbrev pub rank_words : ℕ → List ℕ
rank_words rank = joined (codes "pabble: stuck, rank " ∷ decimal rank ∷ codes " " ∷ [])

-- why a rank has no step, and the line's end
abbrev pub cause_words : Program → Cause → List ℕ
cause_words p (C.Receive from label) = joined (codes "waits for " ∷ name_of p label ∷ codes " from " ∷ decimal from ∷ codes "\n" ∷ [])
cause_words p (C.Probe from) = joined (codes "waits for a message from " ∷ decimal from ∷ codes "\n" ∷ [])
cause_words p (C.Taken by label) = joined (codes "waits until " ∷ decimal by ∷ codes " takes " ∷ name_of p label ∷ codes "\n" ∷ [])
cause_words p C.Collective = codes "waits in a collective\n"
cause_words p C.Lost = codes "is lost\n"
cause_words p C.Undefined = codes "is undefined\n"
cause_words p (C.Left from label) = joined (codes "has " ∷ name_of p label ∷ codes " from " ∷ decimal from ∷ codes " left over\n" ∷ [])

abbrev pub stuck_line : Program → ℕ → Cause → List ℕ
stuck_line p rank cause = rank_words rank ++ cause_words p cause

-- behind a log that is whole; a schedule stands alone
abbrev pub ended_line : Shown → List ℕ
ended_line O.Log = codes "ended\n"
ended_line O.Schedule = []

-- the line of an event in a schedule's text
abbrev pub line_number : ℕ → ℕ
line_number t = t + 3

abbrev pub last_line : Program → ℕ → Shown → Ending → List ℕ
last_line p most shown E.Ended = ended_line shown
last_line p most shown (E.Stuck rank cause) = stuck_line p rank cause
last_line p most shown E.Turns = line_of (refusal.Turns most)
last_line p most shown (E.Refused t) = line_of (refusal.Schedule (line_number t))
last_line p most shown E.Full = line_of refusal.WordsInFlight
last_line p most shown E.NoMemory = line_of refusal.NoMemory
last_line p most shown E.WriteFault = []

abbrev pub status_of : Ending → Status
status_of E.Ended = S.Done
status_of (E.Stuck rank cause) = S.Stuck
status_of E.Turns = S.Turns
status_of (E.Refused t) = S.Schedule
status_of E.Full = S.Limit
status_of E.NoMemory = S.NoMemory
status_of E.WriteFault = S.WriteFault

-- the number of an event that was refused is small
abbrev pub IsEarly : Ending → Type 0
IsEarly E.Ended = Unit {0}
IsEarly (E.Stuck rank cause) = Unit {0}
IsEarly E.Turns = Unit {0}
IsEarly (E.Refused t) = t ≤ MOST_EVENTS
IsEarly E.Full = Unit {0}
IsEarly E.NoMemory = Unit {0}
IsEarly E.WriteFault = Unit {0}
