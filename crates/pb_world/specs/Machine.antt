-- The machine of one rank, and what it is for a rank alone to follow a list of actions.
use Rattle.std.specs.Prelude.{◌≡◌, ℕ, Bool, true, false, List, [], ◌∷◌, Option, Some}
use Rattle.pb_world.specs.Actions.{Action, Recv, Kind, kind_of}

-- What comes next in a state: a silent step, an action, a probe of a source, or no step at all
pub data Next : Type 0 where
  Silent : Next
  Does : (kind : Kind) → Next
  Probe : (source : ℕ) → Next
  Ended : Next
  Lost : Next
  Undefined : Next

-- A deterministic machine. A state knows its rank
pub record Machine (S : Type 0) : Type 0 where
  pub next : S → Next
  pub quiet : S → S  -- after a silent step
  pub read : S → ℕ → Option S  -- after a probe has read this label, if there is a test for it
  pub act : S → Action → S  -- after this action

-- it stands at an action, a probe or its end
abbrev pub IsStanding : Next → Type 0
IsStanding Silent = ⊥
IsStanding (Does kind) = Unit {0}
IsStanding (Probe source) = Unit {0}
IsStanding Ended = Unit {0}
IsStanding Lost = ⊥
IsStanding Undefined = ⊥

-- From a state the machine can do exactly these actions, each allowed. Behind the last it stands or, where `ends`, it ends.
-- A receive or a leave gets the words of the list, and a probe reads the label of the receive that comes next in it.
pub data Follows {S : Type 0} (machine : Machine S) (allowed : Action → Bool) : S → List Action → Bool → Type 0 where
  stands : {x : S} → IsStanding (machine.next x) → Follows machine allowed x [] false
  ended : {x : S} → machine.next x ≡ Ended → Follows machine allowed x [] true
  silent : {x : S} {s : List Action} {ends : Bool} → machine.next x ≡ Silent → Follows machine allowed (machine.quiet x) s ends → Follows machine allowed x s ends
  act : {x : S} {a : Action} {s : List Action} {ends : Bool} → machine.next x ≡ Does (kind_of a) → allowed a ≡ true → Follows machine allowed (machine.act x a) s ends → Follows machine allowed x (a ∷ s) ends
  probe : {x y : S} {p label : ℕ} {words : List ℕ} {s : List Action} {ends : Bool} → machine.next x ≡ Probe p → machine.read x label ≡ Some y → Follows machine allowed y (Recv p label words ∷ s) ends → Follows machine allowed x (Recv p label words ∷ s) ends
