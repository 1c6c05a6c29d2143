-- What a search of the calls holds: the subprotocols that it has come to.
use Rattle.std.specs.Prelude.{◌≡◌, ◌≢◌, ◌⊎◌, ◌<◌, ◌≤◌, ℕ, suc, Bool, true, false, ◌||◌, nat_eq, nat_le, if◌then◌else◌, Option, Some, None, List, [], ◌∷◌, ◌++◌, length, slice_index_or}
use Rattle.pb_do_faults.specs.declared.call_site.CallSite.{CallSite}
use Rattle.pb_do_faults.specs.Cycles.{Bodies, Calls, body_at, Reaches}

-- a test tells whether this is so
abbrev pub Tells : Bool → Type 0 → Type 0
Tells true P = P
Tells false P = P → ⊥

abbrev pub is_among : ℕ → List ℕ → Bool
is_among i [] = false
is_among i (j ∷ js) = nat_eq i j || is_among i js

abbrev pub trues : List Bool → ℕ
trues [] = 0
trues (b ∷ bs) = if b then suc (trues bs) else trues bs

-- what was seen is what stands in the list, in which no number stands twice
pub record IsSeen (seen : List Bool) (order : List ℕ) : Type 0 where
  pub marked : (i : ℕ) → slice_index_or seen i false ≡ is_among i order
  pub counted : trues seen ≡ length order

-- one more of so many, unless the search was there
abbrev pub with_number : ℕ → List ℕ → ℕ → List ℕ
with_number count order i = if is_among i order || nat_le count i then order else order ++ i ∷ []

abbrev pub with_callee : ℕ → List ℕ → Option ℕ → List ℕ
with_callee count order None = order
with_callee count order (Some i) = with_number count order i

abbrev pub with_calls : ℕ → List ℕ → List CallSite → List ℕ
with_calls count order [] = order
with_calls count order (d ∷ ds) = with_calls count (with_callee count order d.callee) ds

-- Of the subprotocols that a search has come to, the first few were looked at: none of these is the one that is looked for,
-- and the search has come to all that they call.
pub record Searched (bodies : Bodies) (from to : ℕ) (order : List ℕ) (done : ℕ) : Type 0 where
  pub begun : (is_among from order ≡ true) ⊎ (length bodies ≤ from)
  pub missed : (m : ℕ) → m < done → m < length order → slice_index_or order m 0 ≢ to
  pub closed : (m : ℕ) → m < done → m < length order → (j : ℕ) → Calls (body_at bodies (slice_index_or order m 0)) j → (is_among j order ≡ true) ⊎ (length bodies ≤ j)
  pub reached : (j : ℕ) → is_among j order ≡ true → Reaches bodies from j
