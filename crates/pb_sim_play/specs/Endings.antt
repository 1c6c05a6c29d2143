-- How simulations end, and what is written of them.
use Rattle.std.specs.Prelude.{◌≡◌, ℕ, suc, ◌<◌, ◌≤◌, ◌⊎◌, ℤ, Option, Some, List, [], ◌++◌, length, map, codes, slice_get}
use Rattle.std.specs.Io.KnownBytes.{Appends}
use Rattle.pb_io.specs.Sinks.{AppendsFront}
use Rattle.pb_world.specs.Actions.{Action}
use Rattle.pb_ctree.specs.declared.tree.CTree.{CTree}
use Rattle.pb_local.specs.Tree.{Program, program_of}
use Rattle.pb_local.specs.Family.{Sequence, family}
use Rattle.pb_sim_world.specs.Worlds.{world_of}
use Rattle.pb_sched.specs.Formats.{layout}
use Rattle.pb_sched.specs.declared.format.Format.TheVariants.{Two}
use Rattle.pb_sched.specs.declared.schedule.Turn as D
use Rattle.pb_sim.specs.declared.seen.Seen.{Seen}
use Rattle.pb_sim.specs.declared.standing.Standing.{Standing}
use Rattle.pb_sim.specs.declared.standing.Standing.TheVariants as S
use Rattle.pb_sim.specs.Scheduled.{Turn}
use Rattle.pb_sim.specs.Flight.{SendsTooMuch}
use Rattle.pb_sim.specs.Made.{HasStep}
use Rattle.pb_sim.specs.Standing.{IsStanding}
use Rattle.pb_cli_words.specs.declared.options.Shown.{Shown}
use Rattle.pb_cli_words.specs.declared.options.Shown.TheVariants as O
use Rattle.pb_sim_play.specs.declared.record.Record.{Record}
use Rattle.pb_sim_play.specs.declared.stop.Stop.{Stop}
use Rattle.pb_sim_play.specs.declared.stop.Stop.TheVariants as T
use Rattle.pb_sim_play.specs.declared.ending.Ending.{Ending}
use Rattle.pb_sim_play.specs.declared.ending.Ending.TheVariants as E
use Rattle.pb_sim_play.specs.Plans.{Source, drawn, given, May}
use Rattle.pb_sim_play.specs.Plays.{IsPlay, log_of}
use Rattle.pb_sim_play.specs.Records.{HasPlayed}

-- no rank has a step
abbrev pub IsStill : Seen → Type 0
IsStill x = (sequence : Sequence) (r : ℕ) → HasStep x sequence r → ⊥

-- where there is no event number t
abbrev pub IsSpent : Source → ℕ → Seen → Type 0
IsSpent (drawn seed modes) t x = IsStill x
IsSpent (given turns) t x = length turns ≤ t

-- ---- how the events came to an end

-- event number t, which may be next, isn't made
pub record IsHeld (tree : CTree) (n : ℤ) (source : Source) (t : ℕ) (x : Seen) (P : ℕ → Type 0) : Type 0 where
  pub turn : Turn
  pub may : May tree n source t (world_of x.state) turn
  pub why : P turn.0

-- by a rank that has no step; and by one that has a step, which is a send, where behind these actions too many words would be in
-- flight
abbrev pub IsUnready : CTree → ℤ → Source → ℕ → Seen → Type 0
IsUnready tree n source t x = IsHeld tree n source t x (λ r. (sequence : Sequence) → HasStep x sequence r → ⊥)

abbrev pub IsFull : CTree → ℤ → Source → ℕ → List (ℕ × Action) → Seen → Type 0
IsFull tree n source t w x = IsHeld tree n source t x (λ r. ((sequence : Sequence) → HasStep x sequence r) × SendsTooMuch w x r)

-- the run of some events: a statement on its events, its actions and where it stands
pub record Ran (tree : CTree) (n : ℤ) (post : ℕ → ℕ → ℕ → Type 0) (source : Source) (most : ℕ) (P : List Turn → List (ℕ × Action) → Seen → Type 0) : Type 0 where
  pub turns : List Turn
  pub w : List (ℕ × Action)
  pub x : Seen
  pub play : IsPlay tree n post source turns w x
  pub few : length turns ≤ most
  pub is : P turns w x

-- ---- what is written

-- the events as a schedule has them
abbrev pub turn_of : Turn → D.Turn
turn_of turn = record { rank = turn.0; mode = turn.1 }

abbrev pub schedule_of : ℕ → List Turn → List ℕ
schedule_of seed turns = layout Two seed (map turn_of turns)

-- of a run that came to its end: its log, or its schedule
abbrev pub text_of : Shown → ℕ → CTree → List Turn → List (ℕ × Action) → List ℕ
text_of O.Log seed tree turns w = log_of (program_of tree.local) w
text_of O.Schedule seed tree turns w = schedule_of seed turns

-- of one that didn't
abbrev pub part_of : Shown → CTree → List (ℕ × Action) → List ℕ
part_of O.Log tree w = log_of (program_of tree.local) w
part_of O.Schedule tree w = []

-- it stands so, whatever the sequential run is
abbrev pub Stands : CTree → ℤ → Seen → Standing → Type 0
Stands tree n x standing = (sequence : Sequence) → IsStanding (family (program_of tree.local) n sequence) (world_of x.state) standing

-- all events of a schedule were made
abbrev pub IsWhole : Source → List Turn → Type 0
IsWhole (drawn seed modes) turns = Unit {0}
IsWhole (given all) turns = turns ≡ all

module _ (tree : CTree) (n : ℤ) (post : ℕ → ℕ → ℕ → Type 0) (source : Source) (most : ℕ) (shown : Shown) (seed : ℕ) where
  -- it came to its end and stands so, and this text tells it
  abbrev pub IsOut : Standing → List ℕ → Type 0
  IsOut standing text = Ran tree n post source most (λ turns w x. Stands tree n x standing × IsWhole source turns × (text ≡ text_of shown seed tree turns w))

  -- this ending, and the text that tells what was done
  abbrev pub EndsWith : Ending → List ℕ → Type 0
  EndsWith E.Ended text = IsOut S.Ended text
  EndsWith (E.Stuck rank cause) text = IsOut (S.Stuck rank cause) text
  EndsWith E.Turns text = Ran tree n post source most (λ turns w x. Stands tree n x S.Going × (length turns ≡ most) × IsWhole source turns × (text ≡ text_of shown seed tree turns w))
  EndsWith (E.Refused t) text = Ran tree n post source most (λ turns w x. (t ≡ length turns) × IsUnready tree n source t x × (text ≡ part_of shown tree w))
  EndsWith E.Full text = Ran tree n post source most (λ turns w x. (length turns < most) × IsFull tree n source (length turns) w x × (text ≡ part_of shown tree w))
  EndsWith E.NoMemory text = Ran tree n post source most (λ turns w x. text ≡ part_of shown tree w)
  EndsWith E.WriteFault text = ⊥

  -- what belongs to the output as far as the run has come
  abbrev pub IsSoFar : List ℕ → Type 0
  IsSoFar text = Ran tree n post source most (λ turns w x. (text ≡ part_of shown tree w) ⊎ (text ≡ text_of shown seed tree turns w))

-- an ending was told, or a write failed
abbrev pub Tells : CTree → ℤ → (ℕ → ℕ → ℕ → Type 0) → Source → ℕ → Shown → ℕ → Ending → Option (List ℕ) → Option (List ℕ) → Type 0
Tells tree n post source most shown seed E.WriteFault old new = (text : List ℕ) × IsSoFar tree n post source most shown seed text × AppendsFront old new text
Tells tree n post source most shown seed E.Ended old new = (text : List ℕ) × EndsWith tree n post source most shown seed E.Ended text × Appends old new text
Tells tree n post source most shown seed (E.Stuck rank cause) old new = (text : List ℕ) × EndsWith tree n post source most shown seed (E.Stuck rank cause) text × Appends old new text
Tells tree n post source most shown seed E.Turns old new = (text : List ℕ) × EndsWith tree n post source most shown seed E.Turns text × Appends old new text
Tells tree n post source most shown seed (E.Refused t) old new = (text : List ℕ) × EndsWith tree n post source most shown seed (E.Refused t) text × Appends old new text
Tells tree n post source most shown seed E.Full old new = (text : List ℕ) × EndsWith tree n post source most shown seed E.Full text × Appends old new text
Tells tree n post source most shown seed E.NoMemory old new = (text : List ℕ) × EndsWith tree n post source most shown seed E.NoMemory text × Appends old new text

-- ---- where the events stopped, with what is kept

-- a write failed, and of the log of some run only first bytes are written
abbrev pub HasBroken : CTree → ℤ → (ℕ → ℕ → ℕ → Type 0) → Source → ℕ → Shown → Option (List ℕ) → Option (List ℕ) → Type 0
HasBroken tree n post source most shown start now = Ran tree n post source most (λ turns w y. AppendsFront start now (part_of shown tree w))

-- at this event, which may be next
abbrev pub HasFailed : CTree → ℤ → (ℕ → ℕ → ℕ → Type 0) → Source → Shown → Option (List ℕ) → ℕ → Stop → Record → Option (List ℕ) → Type 0
HasFailed tree n post source shown start k T.Made kept now = ⊥
HasFailed tree n post source shown start k (T.Refused t) kept now = (t ≡ k) × ((x : Seen) × HasPlayed tree n post source start k x kept now × IsUnready tree n source k x)
HasFailed tree n post source shown start k T.Full kept now = (x : Seen) × ((played : HasPlayed tree n post source start k x kept now) × IsFull tree n source k played.w x)
HasFailed tree n post source shown start k T.NoMemory kept now = (x : Seen) × HasPlayed tree n post source start k x kept now
HasFailed tree n post source shown start k T.WriteFault kept now = HasBroken tree n post source (suc k) shown start now

-- all events were made, or there was none to make
pub record HasMade (tree : CTree) (n : ℤ) (post : ℕ → ℕ → ℕ → Type 0) (source : Source) (most : ℕ) (start : Option (List ℕ)) (x : Seen) (kept : Record) (now : Option (List ℕ)) : Type 0 where
  pub count : ℕ
  pub few : count ≤ most
  pub played : HasPlayed tree n post source start count x kept now
  pub over : (count ≡ most) ⊎ IsSpent source count x

-- some events were made, fewer than the most, and an event that may be next isn't
pub record HasHalted (tree : CTree) (n : ℤ) (post : ℕ → ℕ → ℕ → Type 0) (source : Source) (most : ℕ) (start : Option (List ℕ)) (kept : Record) (now : Option (List ℕ)) (P : ℕ → List (ℕ × Action) → Seen → Type 0) : Type 0 where
  pub count : ℕ
  pub few : count < most
  pub x : Seen
  pub played : HasPlayed tree n post source start count x kept now
  pub is : P count played.w x

abbrev pub HasStopped : CTree → ℤ → (ℕ → ℕ → ℕ → Type 0) → Source → ℕ → Shown → Option (List ℕ) → Stop → Seen → Record → Option (List ℕ) → Type 0
HasStopped tree n post source most shown start T.Made x kept now = HasMade tree n post source most start x kept now
HasStopped tree n post source most shown start (T.Refused t) x kept now = HasHalted tree n post source most start kept now (λ k w y. (t ≡ k) × IsUnready tree n source k y)
HasStopped tree n post source most shown start T.Full x kept now = HasHalted tree n post source most start kept now (λ k w y. IsFull tree n source k w y)
HasStopped tree n post source most shown start T.NoMemory x kept now = HasHalted tree n post source most start kept now (λ k w y. Unit {0})
HasStopped tree n post source most shown start T.WriteFault x kept now = HasBroken tree n post source most shown start now

-- ---- what the end writes

-- this ending was given and all was written, or the schedule couldn't be made, or a write failed
abbrev pub WritesWhole : Ending → Ending → Option (List ℕ) → Option (List ℕ) → List ℕ → List ℕ → Type 0
WritesWhole ending result start now whole part =
    ((result ≡ ending) × Appends start now whole) ⊎ (((result ≡ E.NoMemory) × Appends start now part) ⊎ ((result ≡ E.WriteFault) × AppendsFront start now whole))

abbrev pub WritesPart : Ending → Ending → Option (List ℕ) → Option (List ℕ) → List ℕ → Type 0
WritesPart ending result start now part = ((result ≡ ending) × Appends start now part) ⊎ ((result ≡ E.WriteFault) × AppendsFront start now part)

-- how a simulation ended that stands so
abbrev pub ending_of : Standing → Ending
ending_of S.Going = E.Turns
ending_of S.Ended = E.Ended
ending_of (S.Stuck rank cause) = E.Stuck rank cause

-- a schedule is played to its end
abbrev pub IsMostOf : Source → ℕ → Type 0
IsMostOf (drawn seed modes) most = Unit {0}
IsMostOf (given turns) most = length turns ≡ most
