-- A run under turns: who makes each event and in which mode, with the words of an answer function.
use Rattle.std.specs.Prelude.{◌≡◌, ℕ, List, [], ◌∷◌, ◌++◌, length, map, sum}
use Rattle.pb_text.specs.declared.mode.Mode.{Mode}
use Rattle.pb_world.specs.Actions.{Action, Choose, Run, Send, Recv, Enter, Leave, of_rank}
use Rattle.pb_world.specs.Family.{Family}
use Rattle.pb_world.specs.World.{Message, World, beginning, Step}
use Rattle.pb_sim.specs.Done.{AreAnswered}

-- a rank, and the mode of its event
abbrev pub Turn : Type 0
Turn = ℕ × Mode

-- the event was in this mode: a send's message has it, and so has the rank that entered a collective
abbrev pub IsInMode : {S : Type 0} → Mode → ℕ → List Action → World S → Type 0
IsInMode mode r [] V = Unit {0}
IsInMode mode r (Send q label words ∷ acts) V = (front : List Message) × (V.channel r q ≡ front ++ record { label = label; words = words; mode = mode } ∷ [])
IsInMode mode r (Enter collective words ∷ acts) V = V.mode r ≡ mode
IsInMode mode r (Choose kernel branches branch ∷ acts) V = Unit {0}
IsInMode mode r (Run kernel ∷ acts) V = Unit {0}
IsInMode mode r (Recv from label words ∷ acts) V = Unit {0}
IsInMode mode r (Leave collective words ∷ acts) V = Unit {0}

-- how many words a rank's kernels made for an action
abbrev pub words_asked : Action → ℕ
words_asked (Choose kernel branches branch) = 1
words_asked (Run kernel) = 0
words_asked (Send to label words) = length words
words_asked (Recv from label words) = 0
words_asked (Enter collective words) = length words
words_asked (Leave collective words) = 0

-- and for all actions of rank r in a list
abbrev pub asked_by : ℕ → List (ℕ × Action) → ℕ
asked_by r w = sum (map words_asked (of_rank r w))

-- one event of rank r in this mode, behind the actions w, with words that are answered on the rank and the number of words that it had asked
pub record Turned {S : Type 0} (F : Family S) (answered : ℕ → ℕ → ℕ → Type 0) (w : List (ℕ × Action)) (W : World S) (turn : Turn) (acts : List Action) (V : World S) : Type 0 where
  pub step : Step F W turn.0 acts V
  pub mode : IsInMode turn.1 turn.0 acts V
  pub words : AreAnswered answered turn.0 (asked_by turn.0 w) acts

-- The runs from the start, each with its turns, its actions and its last world. Which turn event number t may be, from 0, in a world, is given from outside
pub data ScheduledRun {S : Type 0} (F : Family S) (answered : ℕ → ℕ → ℕ → Type 0) (may : ℕ → World S → Turn → Type 0) : List Turn → List (ℕ × Action) → World S → Type 0 where
  start : ScheduledRun F answered may [] [] (beginning F)
  event : {turns : List Turn} {w : List (ℕ × Action)} {W V : World S} {turn : Turn} {acts : List Action} →
      ScheduledRun F answered may turns w W → may (length turns) W turn → Turned F answered w W turn acts V →
      ScheduledRun F answered may (turns ++ turn ∷ []) (w ++ map (λ a. (turn.0, a)) acts) V
