-- A bound on silent steps: the machine that is lost beyond it, and following a list within it.
use Rattle.std.specs.Prelude.{◌≡◌, ℕ, zero, suc, ◌<◌, cond, Bool, true, false, ◌&&◌, List, [], ◌∷◌, Option, Some, None, nat_le}
use Rattle.pb_world.specs.Actions.{Action, Recv, kind_of}
use Rattle.pb_world.specs.Machine.{Next, Silent, Does, Probe, Ended, Lost, Undefined, Machine, IsStanding, Follows}

-- a state, with the number of silent steps since the last action or the start
pub record Counted (S : Type 0) : Type 0 where
  pub state : S
  pub count : ℕ

-- it would make a silent step; a probe is one, whether or not a message is there
abbrev pub is_quiet : Next → Bool
is_quiet Silent = true
is_quiet (Probe source) = true
is_quiet (Does kind) = false
is_quiet Ended = false
is_quiet Lost = false
is_quiet Undefined = false

abbrev pub one_more : {S : Type 0} → ℕ → Option S → Option (Counted S)
one_more n None = None
one_more n (Some y) = Some (record { state = y; count = suc n })

-- The machine that is lost where it has made `bound` silent steps and would make another
abbrev pub counted : {S : Type 0} → ℕ → Machine S → Machine (Counted S)
counted bound M = record {
  next = λ x. cond (is_quiet (M.next x.state) && nat_le bound x.count) Lost (M.next x.state);
  quiet = λ x. record { state = M.quiet x.state; count = suc x.count };
  read = λ x l. one_more x.count (M.read x.state l);
  act = λ x a. record { state = M.act x.state a; count = zero };
}

abbrev pub counted_start : {S : Type 0} → S → Counted S
counted_start x = record { state = x; count = zero }

-- Follows, with at most so many silent steps before the next action, and `bound` before each later one
pub data FollowsWithin {S : Type 0} (bound : ℕ) (M : Machine S) (allowed : Action → Bool) : ℕ → S → List Action → Bool → Type 0 where
  stands : {k : ℕ} {x : S} → IsStanding (M.next x) → (is_quiet (M.next x) ≡ true → zero < k) → FollowsWithin bound M allowed k x [] false
  ended : {k : ℕ} {x : S} → M.next x ≡ Ended → FollowsWithin bound M allowed k x [] true
  silent : {k : ℕ} {x : S} {s : List Action} {ends : Bool} → M.next x ≡ Silent → FollowsWithin bound M allowed k (M.quiet x) s ends → FollowsWithin bound M allowed (suc k) x s ends
  act : {k : ℕ} {x : S} {a : Action} {s : List Action} {ends : Bool} → M.next x ≡ Does (kind_of a) → allowed a ≡ true → FollowsWithin bound M allowed bound (M.act x a) s ends → FollowsWithin bound M allowed k x (a ∷ s) ends
  probe : {k : ℕ} {x y : S} {p label : ℕ} {words : List ℕ} {s : List Action} {ends : Bool} → M.next x ≡ Probe p → M.read x label ≡ Some y → FollowsWithin bound M allowed k y (Recv p label words ∷ s) ends → FollowsWithin bound M allowed (suc k) x (Recv p label words ∷ s) ends

-- what is followed within the bound, the counting machine follows
abbrev pub CountedFollows : Type 0 → Type 0
CountedFollows S = (bound : ℕ) (M : Machine S) (allowed : Action → Bool) (x : S) (s : List Action) (ends : Bool) → FollowsWithin bound M allowed bound x s ends → Follows (counted bound M) allowed (counted_start x) s ends
