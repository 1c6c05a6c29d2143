-- A lower machine that does what an upper one does, with silent steps between.
use Rattle.std.specs.Prelude.{◌≡◌, ℕ, zero, suc, ◌+◌, ◌<◌, ◌≤◌, Bool, true, Some}
use Rattle.pb_world.specs.Actions.{Action, Kind, kind_of}
use Rattle.pb_world.specs.Machine.{Silent, Does, Probe, Ended, Machine}
use Rattle.pb_world.specs.Counted.{Counted, counted, counted_start}
use Rattle.pb_world.specs.Family.{Family, on_machine}

-- so many silent steps
pub data Quietly {D : Type 0} (down : Machine D) : ℕ → D → D → Type 0 where
  here : {y : D} → Quietly down zero y y
  further : {n : ℕ} {y z : D} → down.next y ≡ Silent → Quietly down n (down.quiet y) z → Quietly down (suc n) y z

-- Rel k x y: the lower state y does what the upper state x does, and has k silent steps left until its next action. After an action it has `bound` again
pub record Simulates {U D : Type 0} (up : Machine U) (down : Machine D) (allowed : Action → Bool) (bound : ℕ) (Rel : ℕ → U → D → Type 0) : Type 0 where
  pub quiet : (k : ℕ) (x : U) (y : D) → Rel k x y → up.next x ≡ Silent → (j i : ℕ) × (z : D) × Quietly down j y z × (j + i ≤ k) × Rel i (up.quiet x) z
  pub does : (k : ℕ) (x : U) (y : D) (kind : Kind) → Rel k x y → up.next x ≡ Does kind → (j : ℕ) × (z : D) × Quietly down j y z × (j ≤ k) × (down.next z ≡ Does kind) × ((a : Action) → kind_of a ≡ kind → allowed a ≡ true → Rel bound (up.act x a) (down.act z a))
  pub ends : (k : ℕ) (x : U) (y : D) → Rel k x y → up.next x ≡ Ended → (j : ℕ) × (z : D) × Quietly down j y z × (j ≤ k) × (down.next z ≡ Ended)
  -- a probe is a silent step too
  pub probes : (k : ℕ) (x : U) (y : D) (p : ℕ) → Rel k x y → up.next x ≡ Probe p → (j : ℕ) × (z : D) × Quietly down j y z × (j < k) × (down.next z ≡ Probe p) × ((l : ℕ) (x' : U) → up.read x l ≡ Some x' → (i : ℕ) × (z' : D) × (down.read z l ≡ Some z') × (j + suc i ≤ k) × Rel i x' z')

-- the same family with the lower machine, which is lost after too many silent steps
abbrev pub lowered : {U D : Type 0} → Family U → Machine D → ℕ → (ℕ → D) → Family (Counted D)
lowered F down bound start = on_machine F (counted bound down) (λ r. counted_start (start r))
