-- How a world stands: somebody has a step, all is at its end, or nobody can go on, and why.
use Rattle.std.specs.Prelude.{◌≡◌, ◌≢◌, ℕ, ◌<◌, ◌⊎◌, List, [], ◌∷◌, ◌++◌, Option, None, Some}
use Rattle.pb_text.specs.declared.mode.Mode.TheVariants.{Waiting}
use Rattle.pb_world.specs.Actions.{Collective, Receives, Enters, Leaves}
use Rattle.pb_world.specs.Machine as N
use Rattle.pb_world.specs.Family.{Family}
use Rattle.pb_world.specs.World.{Message, World, next_of, Agrees, CanStep}
use Rattle.pb_sim.specs.declared.standing.Cause.{Cause}
use Rattle.pb_sim.specs.declared.standing.Cause.TheVariants as C
use Rattle.pb_sim.specs.declared.standing.Standing.{Standing}
use Rattle.pb_sim.specs.declared.standing.Standing.TheVariants as S

-- all ranks have ended and no message is left
pub record IsAtEnd {S : Type 0} (F : Family S) (W : World S) : Type 0 where
  pub ended : (r : ℕ) → r < F.total → next_of F W r ≡ N.Ended
  pub empty : (p q : ℕ) → p < F.total → q < F.total → W.channel p q ≡ []

-- a rank has a step
pub record IsGoing {S : Type 0} (F : Family S) (W : World S) : Type 0 where
  pub rank : ℕ
  pub there : rank < F.total
  pub can : CanStep F W rank

module _ {S : Type 0} (F : Family S) (W : World S) (r : ℕ) where
  -- by a number, a peer or a choice without tests, by the first tag at its probe, or by a collective that isn't the others'
  abbrev pub IsUndefined : Type 0
  IsUndefined =
      (next_of F W r ≡ N.Undefined)
      ⊎ (((p : ℕ) × (m : Message) × (rest : List Message) × (next_of F W r ≡ N.Probe p) × (W.channel p r ≡ m ∷ rest) × (F.machine.read (W.state r) m.label ≡ None))
      ⊎ ((j : Collective) × (next_of F W r ≡ N.Does (Enters j)) × (Agrees F W r j → ⊥)))

  -- its last send still waits
  pub record IsWaitingFor (by label : ℕ) : Type 0 where
    pub there : by < F.total
    pub front : List Message
    pub message : Message
    pub is : W.channel r by ≡ front ++ message ∷ []
    pub label_is : message.label ≡ label
    pub waits : message.mode ≡ Waiting

  -- no send of it waits
  abbrev pub IsNotWaiting : Type 0
  IsNotWaiting = (by label : ℕ) → IsWaitingFor by label → ⊥

  -- why rank r, which hasn't ended, has no step
  abbrev pub IsCause : Cause → Type 0
  IsCause C.Lost = next_of F W r ≡ N.Lost
  IsCause C.Undefined = IsUndefined
  IsCause (C.Taken by label) = (IsUndefined → ⊥) × (next_of F W r ≢ N.Lost) × IsWaitingFor by label
  IsCause C.Collective = IsNotWaiting × ((j : Collective) × (next_of F W r ≡ N.Does (Leaves j)))
  IsCause (C.Receive from label) = IsNotWaiting × (next_of F W r ≡ N.Does (Receives from label))
  IsCause (C.Probe from) = IsNotWaiting × (next_of F W r ≡ N.Probe from) × (W.channel from r ≡ [])
  IsCause (C.Left from label) = ⊥

-- the least rank that hasn't ended is r
pub record IsFirstLeft {S : Type 0} (F : Family S) (W : World S) (r : ℕ) : Type 0 where
  pub there : r < F.total
  pub goes_on : next_of F W r ≢ N.Ended
  pub before : (q : ℕ) → q < r → next_of F W q ≡ N.Ended

-- all ranks have ended, and this is the first message of the first list that is left, by receiver and then sender
pub record IsFirstOver {S : Type 0} (F : Family S) (W : World S) (r from label : ℕ) : Type 0 where
  pub ended : (q : ℕ) → q < F.total → next_of F W q ≡ N.Ended
  pub there : r < F.total
  pub sender : from < F.total
  pub message : Message
  pub rest : List Message
  pub is : W.channel from r ≡ message ∷ rest
  pub label_is : message.label ≡ label
  pub before : (q p : ℕ) → q < r → p < F.total → W.channel p q ≡ []
  pub least : (p : ℕ) → p < from → W.channel p r ≡ []

abbrev pub IsStuckBy : {S : Type 0} → Family S → World S → ℕ → Cause → Type 0
IsStuckBy F W r (C.Left from label) = IsFirstOver F W r from label
IsStuckBy F W r C.Lost = IsFirstLeft F W r × IsCause F W r C.Lost
IsStuckBy F W r C.Undefined = IsFirstLeft F W r × IsCause F W r C.Undefined
IsStuckBy F W r (C.Taken by label) = IsFirstLeft F W r × IsCause F W r (C.Taken by label)
IsStuckBy F W r C.Collective = IsFirstLeft F W r × IsCause F W r C.Collective
IsStuckBy F W r (C.Receive from label) = IsFirstLeft F W r × IsCause F W r (C.Receive from label)
IsStuckBy F W r (C.Probe from) = IsFirstLeft F W r × IsCause F W r (C.Probe from)

-- the standing of a world
abbrev pub IsStanding : {S : Type 0} → Family S → World S → Standing → Type 0
IsStanding F W S.Going = IsGoing F W
IsStanding F W S.Ended = (IsGoing F W → ⊥) × IsAtEnd F W
IsStanding F W (S.Stuck rank cause) = (IsGoing F W → ⊥) × (IsAtEnd F W → ⊥) × IsStuckBy F W rank cause

-- ---- one rank

-- it is there, hasn't ended and has no step, and this is why
pub record IsIdle {S : Type 0} (F : Family S) (W : World S) (r : ℕ) (cause : Cause) : Type 0 where
  pub there : r < F.total
  pub goes_on : next_of F W r ≢ N.Ended
  pub idle : CanStep F W r → ⊥
  pub why : IsCause F W r cause

-- it isn't there, has ended, or has a step
abbrev pub IsNotIdle : {S : Type 0} → Family S → World S → ℕ → Type 0
IsNotIdle F W r = r < F.total → (next_of F W r ≡ N.Ended) ⊎ CanStep F W r

-- why a rank has no step, and None where it isn't idle
abbrev pub TellsIdle : {S : Type 0} → Family S → World S → ℕ → Option Cause → Type 0
TellsIdle F W r None = IsNotIdle F W r
TellsIdle F W r (Some cause) = IsIdle F W r cause
