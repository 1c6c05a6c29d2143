-- Two lists of stretches, read side by side.
--
-- f and g are the functions that they say, and x is the latest number that was read.
use Rattle.std.specs.Prelude.{◌≡◌, ℤ, pos, ◌+ℤ◌, ◌≤ℤ◌, ◌<ℤ◌, List, [], ◌∷◌}
use Rattle.pb_cost_pieces.specs.declared.join.Join.{Join}
use Rattle.pb_cost_pieces.specs.declared.stretch.Stretch.{Stretch}
use Rattle.pb_cost_pieces.specs.Lines.{value_at, value_in, joined, IsTame, AreSoFar}
use Rattle.pb_cost_joins.specs.Adding.{steep, tall}

-- behind x the function is what these stretches say, up to the number `last`
pub data Ahead (f : ℤ → ℤ) (last : ℤ) : ℤ → List Stretch → Type 0 where
  over : (x : ℤ) → x ≡ last → Ahead f last x []
  next : (x : ℤ) (s : Stretch) (rest : List Stretch) → s.from ≤ℤ (x +ℤ pos 1) → x ≤ℤ s.to → ((n : ℤ) → x <ℤ n → n ≤ℤ s.to → f n ≡ value_at s n) → Ahead f last s.to rest → Ahead f last x (s ∷ rest)

-- both lists joined
abbrev pub both_in : Join → List Stretch → List Stretch → ℤ → ℤ
both_in join left right n = joined join (value_in left n) (value_in right n)

-- the lists are functions on the numbers from `from` to `last`, and they and both joined are tame there
pub record AreTame (join : Join) (left right : List Stretch) (from last : ℤ) : Type 0 where
  pub low : pos 0 ≤ℤ from
  pub room : last ≤ℤ pos 900000000000
  pub left_tame : IsTame steep tall (value_in left) from last
  pub right_tame : IsTame steep tall (value_in right) from last
  pub tame : IsTame steep tall (both_in join left right) from last

-- the stretches so far are those of both lists joined
pub record IsRead (join : Join) (left right : List Stretch) (from last : ℤ) (left_rest right_rest done : List Stretch) (latest : Stretch) : Type 0 where
  pub tame : AreTame join left right from last
  pub within : from ≤ℤ latest.to
  pub left_ahead : Ahead (value_in left) last latest.to left_rest
  pub right_ahead : Ahead (value_in right) last latest.to right_rest
  pub so_far : AreSoFar (both_in join left right) from done latest

-- some reading has begun
pub record IsReading (join : Join) (left right left_rest right_rest done : List Stretch) (latest : Stretch) : Type 0 where
  pub from : ℤ
  pub last : ℤ
  pub read : IsRead join left right from last left_rest right_rest done latest

-- and it went on, to these stretches
abbrev pub ReadsOn : Join → List Stretch → List Stretch → List Stretch → Stretch → List Stretch → List Stretch → List Stretch → Stretch → Type 0
ReadsOn join left right done latest left_rest right_rest longer later =
    (from last : ℤ) → IsRead join left right from last left right done latest → IsRead join left right from last left_rest right_rest longer later

-- and it went on to the end
abbrev pub ReadsAll : Join → List Stretch → List Stretch → List Stretch → Stretch → List Stretch → Stretch → Type 0
ReadsAll join left right done latest longer later =
    (from last : ℤ) → IsRead join left right from last left right done latest → (later.to ≡ last) × AreSoFar (both_in join left right) from longer later
