-- Which calls stand in a subprotocol that is reached from the one they name, and the first of them.
use Rattle.std.specs.Prelude.{◌≡◌, ◌⊎◌, ℕ, ◌+◌, Option, Some, None, List, [], ◌∷◌, slice_index_or}
use Rattle.pb_text.specs.declared.place.Place.{Place}
use Rattle.pb_do_faults.specs.declared.call_site.CallSite.{CallSite}

abbrev pub Bodies : Type 0
Bodies = List (List CallSite)

-- one of the calls is of this subprotocol
abbrev pub Calls : List CallSite → ℕ → Type 0
Calls [] j = ⊥
Calls (d ∷ ds) j = (d.callee ≡ Some j) ⊎ Calls ds j

abbrev pub body_at : Bodies → ℕ → List CallSite
body_at bodies i = slice_index_or bodies i []

-- by any number of calls, from one subprotocol to another
pub data Reaches (bodies : Bodies) : ℕ → ℕ → Type 0 where
  itself : {i j : ℕ} → i ≡ j → Reaches bodies i j
  onward : {i j k : ℕ} → Calls (body_at bodies i) j → Reaches bodies j k → Reaches bodies i k

abbrev pub ReachesFrom : Bodies → Option ℕ → ℕ → Type 0
ReachesFrom bodies None i = ⊥
ReachesFrom bodies (Some j) i = Reaches bodies j i

-- the subprotocol that the call names reaches the one with this number, in which the call stands
abbrev pub IsCycle : Bodies → ℕ → CallSite → Type 0
IsCycle bodies i d = ReachesFrom bodies d.callee i

-- the place of the first such call among calls of the subprotocol with this number
pub data FirstCycleIn (bodies : Bodies) (i : ℕ) : List CallSite → Option Place → Type 0 where
  no_call : {found : Option Place} → found ≡ None → FirstCycleIn bodies i [] found
  on_cycle : {d : CallSite} {ds : List CallSite} {found : Option Place} → IsCycle bodies i d → found ≡ Some d.place → FirstCycleIn bodies i (d ∷ ds) found
  off_cycle : {d : CallSite} {ds : List CallSite} {found : Option Place} → (IsCycle bodies i d → ⊥) → FirstCycleIn bodies i ds found → FirstCycleIn bodies i (d ∷ ds) found

-- and among the calls of all subprotocols from the one with this number on
pub data FirstCycleFrom (bodies : Bodies) : ℕ → Bodies → Option Place → Type 0 where
  no_body : {i : ℕ} {found : Option Place} → found ≡ None → FirstCycleFrom bodies i [] found
  here : {i : ℕ} {calls : List CallSite} {rest : Bodies} {found : Option Place} (place : Place) → FirstCycleIn bodies i calls (Some place) → found ≡ Some place → FirstCycleFrom bodies i (calls ∷ rest) found
  later : {i : ℕ} {calls : List CallSite} {rest : Bodies} {found : Option Place} → FirstCycleIn bodies i calls None → FirstCycleFrom bodies (i + 1) rest found → FirstCycleFrom bodies i (calls ∷ rest) found

abbrev pub FirstCycle : Bodies → Option Place → Type 0
FirstCycle bodies found = FirstCycleFrom bodies 0 bodies found
