-- What is added to stretches while they are built.
use Rattle.std.specs.Prelude.{◌≡◌, ◌≢◌, ℤ, pos, ◌+ℤ◌, ◌≤ℤ◌, ◌<ℤ◌, List}
use Rattle.pb_cost_pieces.specs.declared.stretch.Stretch.{Stretch}
use Rattle.std.specs.Prelude.{[], ◌∷◌, ◌++◌}
use Rattle.pb_cost_pieces.specs.Lines.{value_at, IsOpen, AreSoFar}

-- where `done` and `latest` are the stretches of a function that goes on as g, the longer ones are its stretches, too
pub record Adds (g : ℤ → ℤ) (done : List Stretch) (latest : Stretch) (longer : List Stretch) (next : Stretch) : Type 0 where
  pub so_far : (f : ℤ → ℤ) (from : ℤ) → ((n : ℤ) → latest.to <ℤ n → n ≤ℤ next.to → f n ≡ g n) → AreSoFar f from done latest → AreSoFar f from longer next

-- the stretch with more numbers, up to `to`
pub record Extends (g : ℤ → ℤ) (end_at : ℤ) (latest next : Stretch) : Type 0 where
  pub to : next.to ≡ end_at
  pub last : value_at next next.to ≡ g end_at
  pub adds : (done : List Stretch) → Adds g done latest done next

-- a function that goes on as g leaves the line of this stretch at the next number
pub record Leaves (g : ℤ → ℤ) (latest : Stretch) : Type 0 where
  pub long : latest.from ≢ latest.to
  pub off : g (latest.to +ℤ pos 1) ≢ value_at latest (latest.to +ℤ pos 1)

-- a stretch that begins behind this one, up to `to`
pub record Follows (g : ℤ → ℤ) (latest : Stretch) (end_at : ℤ) (next : Stretch) : Type 0 where
  pub from : next.from ≡ latest.to +ℤ pos 1
  pub to : next.to ≡ end_at
  pub open_one : IsOpen g next

-- the latest stretch has ended, and the next one is the latest
pub record IsTurned (done : List Stretch) (latest next : Stretch) (longer : List Stretch) (now_latest : Stretch) : Type 0 where
  pub done_is : longer ≡ done ++ latest ∷ []
  pub latest_is : now_latest ≡ next
