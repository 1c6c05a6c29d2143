-- The runs of simulations, and the ranks that have a step.
use Rattle.std.specs.Prelude.{◌≡◌, ℕ, ◌+◌, ◌<◌, Bool, IsTrue, List, [], ◌∷◌, ◌++◌, map, length, slice_index, Contains}
use Rattle.pb_world.specs.Actions.{Action}
use Rattle.pb_world.specs.Counted.{Counted}
use Rattle.pb_world.specs.Family.{Family}
use Rattle.pb_world.specs.World.{World, CanStep}
use Rattle.pb_chan.specs.Lists.{words_in}
use Rattle.pb_local.specs.Family.{Sequence, family}
use Rattle.pb_local.specs.Machine as M
use Rattle.pb_sim_world.specs.States.{program, total_of, stand}
use Rattle.pb_sim_world.specs.Worlds.{world_of}
use Rattle.pb_sim.specs.declared.seen.Seen.{Seen}
use Rattle.pb_sim.specs.declared.outcomes.StepDone.{StepDone}
use Rattle.pb_sim.specs.Done.{done_of}
use Rattle.pb_sim.specs.Flight.{received_in, sent_in, KeepsLimit}
use Rattle.pb_sim.specs.Scheduled.{Turn, asked_by, ScheduledRun}

-- This simulation has made this run, whatever the sequential run is. Its channels have the words that were sent and not received,
-- and never had more than may be in flight
pub record IsRun (post : ℕ → ℕ → ℕ → Type 0) (may : ℕ → World (Counted M.Rank) → Turn → Type 0) (turns : List Turn) (w : List (ℕ × Action)) (x : Seen) : Type 0 where
  pub run : (sequence : Sequence) → ScheduledRun (family (program x.state) x.state.n sequence) post may turns w (world_of x.state)
  pub asked : (r : ℕ) → r < total_of x.state → (stand x.state r).asked ≡ asked_by r w
  pub steps : x.steps ≡ length turns
  pub flight : words_in x.state.channels + received_in w ≡ sent_in w
  pub within : KeepsLimit w

-- exactly the ranks that have a step, ascending
pub record IsReadyList {S : Type 0} (F : Family S) (W : World S) (list : List ℕ) : Type 0 where
  pub ascends : (i j : ℕ) → i < j → j < length list → slice_index list i < slice_index list j
  pub ready : (r : ℕ) → Contains list r → (r < F.total) × CanStep F W r
  pub all : (r : ℕ) → r < F.total → CanStep F W r → Contains list r

-- ---- what calls do to a run, whatever turns may be

-- it has begun
abbrev pub BeginsRun : (ℕ → ℕ → ℕ → Type 0) → Seen → Type 0
BeginsRun post x = (may : ℕ → World (Counted M.Rank) → Turn → Bool) → IsRun post (λ t W turn. IsTrue (may t W turn)) [] [] x

-- it has gone on by this turn, and this was told of it
abbrev pub GoesOn : (ℕ → ℕ → ℕ → Type 0) → Seen → Turn → StepDone → Seen → Type 0
GoesOn post x turn done y =
    (may : ℕ → World (Counted M.Rank) → Turn → Bool) (turns : List Turn) (w : List (ℕ × Action)) →
    IsRun post (λ t W next. IsTrue (may t W next)) turns w x →
    IsTrue (may (length turns) (world_of x.state) turn) →
    (acts : List Action) × (done ≡ done_of turn.0 acts) × IsRun post (λ t W next. IsTrue (may t W next)) (turns ++ turn ∷ []) (w ++ map (λ a. (turn.0, a)) acts) y

-- it is as it was
abbrev pub StaysRun : (ℕ → ℕ → ℕ → Type 0) → Seen → Seen → Type 0
StaysRun post x y =
    (may : ℕ → World (Counted M.Rank) → Turn → Bool) (turns : List Turn) (w : List (ℕ × Action)) →
    IsRun post (λ t W next. IsTrue (may t W next)) turns w x → IsRun post (λ t W next. IsTrue (may t W next)) turns w y
