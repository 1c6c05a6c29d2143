-- What all ranks together do, whatever the order of their events, their kernels' answers and the modes of their sends.
use Rattle.std.specs.Prelude.{◌≡◌, ◌≢◌, ℕ, ◌<◌, ◌≤◌, true, List, [], ◌∷◌, None}
use Rattle.pb_world.specs.Actions.{Action, Collective, Enters, of_rank, answers_of, IsPrefixOf, Covers}
use Rattle.pb_world.specs.Machine.{Does, Probe, Ended, Lost, Undefined}
use Rattle.pb_world.specs.Family.{Family}
use Rattle.pb_world.specs.World.{Message, World, next_of, Agrees, CanStep, Reached}

-- A rank is neither lost nor undefined, be it by itself, by the first message at its probe, or by others' collectives
pub record IsSound {S : Type 0} (F : Family S) (W : World S) (r : ℕ) : Type 0 where
  pub lost : next_of F W r ≢ Lost
  pub undefined : next_of F W r ≢ Undefined
  pub tested : (p : ℕ) (m : Message) (rest : List Message) → next_of F W r ≡ Probe p → W.channel p r ≡ m ∷ rest → F.machine.read (W.state r) m.label ≢ None
  pub agrees : (j : Collective) → next_of F W r ≡ Does (Enters j) → Agrees F W r j

-- a rank has done all its actions of the first m steps of the sequential run under the answers of w
abbrev pub HasDone : {S : Type 0} → Family S → List (ℕ × Action) → ℕ → ℕ → Type 0
HasDone F w m r = IsPrefixOf (of_rank r (F.run (answers_of w) m)) (of_rank r w)

-- The world is at its end, and what was done is a whole sequential run, rank by rank
pub record IsWhole {S : Type 0} (F : Family S) (w : List (ℕ × Action)) (W : World S) : Type 0 where
  pub ended : (r : ℕ) → r < F.total → next_of F W r ≡ Ended
  pub empty : (p q : ℕ) → p < F.total → q < F.total → W.channel p q ≡ []
  pub steps : ℕ
  pub over : F.over (answers_of w) steps ≡ true
  pub all : (m r : ℕ) → steps ≤ m → r < F.total → of_rank r (F.run (answers_of w) m) ≡ of_rank r w

pub record AllRanks {S : Type 0} (F : Family S) : Type 0 where
  -- what was done begins the sequential run under its own answers
  pub covered : (w : List (ℕ × Action)) (W : World S) → Reached F w W → (m : ℕ) × Covers (F.run (answers_of w) m) w
  -- no rank goes wrong
  pub sound : (w : List (ℕ × Action)) (W : World S) → Reached F w W → (r : ℕ) → r < F.total → IsSound F W r
  -- nobody is left behind: at the least m whose steps some rank hasn't done, one of those that haven't has a step
  pub progress : (w : List (ℕ × Action)) (W : World S) → Reached F w W → (m : ℕ) → ((k r : ℕ) → k < m → r < F.total → HasDone F w k r) → (r : ℕ) → r < F.total → ¬ HasDone F w m r → (q : ℕ) × (q < F.total) × (¬ HasDone F w m q) × CanStep F W q
  -- where nobody has a step, all is done
  pub whole : (w : List (ℕ × Action)) (W : World S) → Reached F w W → ((r : ℕ) → r < F.total → ¬ CanStep F W r) → IsWhole F w W
