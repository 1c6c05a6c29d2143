-- Lines, and functions of N as stretches on which they are lines.
--
-- On the numbers from 2 to 9 the function that is 0 up to 5 and N - 5 from then on is the stretches
--     2 to 5, which starts with 0 and has the slope 0, and 6 to 9, which starts with 1 and has the slope 1.
--
-- f and g are functions of N, s is a stretch, and n is a number.
use Rattle.std.specs.Prelude.{◌≡◌, ◌≢◌, ℤ, pos, ◌+ℤ◌, ◌-ℤ◌, ◌*ℤ◌, ◌≤ℤ◌, ◌<ℤ◌, int_le, if◌then◌else◌, List, [], ◌∷◌}
use Rattle.std.specs.Int.{int_min, int_max}
use Rattle.pb_cost_pieces.specs.declared.stretch.Stretch.{Stretch}
use Rattle.pb_cost_pieces.specs.declared.join.Join.{Join}
use Rattle.pb_cost_pieces.specs.declared.join.Join.TheVariants.{Sum, Least, Most}

-- the line that is `start` at `from` and grows by `slope` with each number
unfoldable pub along : ℤ → ℤ → ℤ → ℤ → ℤ
along start slope from n = start +ℤ slope *ℤ (n -ℤ from)

abbrev pub value_at : Stretch → ℤ → ℤ
value_at s n = along s.start s.slope s.from n

-- what the stretches say at n, which lies in one of them
abbrev pub value_in : List Stretch → ℤ → ℤ
value_in [] n = pos 0
value_in (s ∷ rest) n = if int_le n s.to then value_at s n else value_in rest n

-- f is the stretch's line from its first number to its last
abbrev pub IsOn : (ℤ → ℤ) → Stretch → Type 0
IsOn f s = (n : ℤ) → s.from ≤ℤ n → n ≤ℤ s.to → f n ≡ value_at s n

-- f is the stretch's line so far and no further; so the slope is by how much f grows from the first number to the next
pub record IsClosed (f : ℤ → ℤ) (s : Stretch) : Type 0 where
  pub long : s.from <ℤ s.to
  pub on : IsOn f s
  pub ends : f (s.to +ℤ pos 1) ≢ value_at s (s.to +ℤ pos 1)

-- f is the stretch's line up to its last number; where it has one number alone its slope is 0
pub record IsOpen (f : ℤ → ℤ) (s : Stretch) : Type 0 where
  pub some : s.from ≤ℤ s.to
  pub on : IsOn f s
  pub single : s.from ≡ s.to → s.slope ≡ pos 0

-- closed stretches from the number `from` up to below the number `to`
pub data AreClosed (f : ℤ → ℤ) (to : ℤ) : ℤ → List Stretch → Type 0 where
  nothing : (from : ℤ) → from ≡ to → AreClosed f to from []
  more : (from : ℤ) (s : Stretch) (rest : List Stretch) → s.from ≡ from → IsClosed f s → AreClosed f to (s.to +ℤ pos 1) rest → AreClosed f to from (s ∷ rest)

-- The stretches of f on the numbers from `from` to `last`: each goes as far as f is its line.
pub data AreStretches (f : ℤ → ℤ) (last : ℤ) : ℤ → List Stretch → Type 0 where
  final : (from : ℤ) (s : Stretch) → s.from ≡ from → s.to ≡ last → IsOpen f s → AreStretches f last from (s ∷ [])
  before : (from : ℤ) (s : Stretch) (rest : List Stretch) → s.from ≡ from → IsClosed f s → AreStretches f last (s.to +ℤ pos 1) rest → AreStretches f last from (s ∷ rest)

-- the stretches of f as far as they are known: closed ones, and one that may go on
pub record AreSoFar (f : ℤ → ℤ) (from : ℤ) (done : List Stretch) (open_one : Stretch) : Type 0 where
  pub closed : AreClosed f open_one.from from done
  pub last : IsOpen f open_one

-- two numbers joined
abbrev pub joined : Join → ℤ → ℤ → ℤ
joined Sum x y = x +ℤ y
joined Least x y = int_min x y
joined Most x y = int_max x y

-- the next number is within `steep` of the one before
pub record IsStep (steep before after : ℤ) : Type 0 where
  pub up : after ≤ℤ (before +ℤ steep)
  pub down : before ≤ℤ (after +ℤ steep)

-- from one number of the range to the next f changes by no more than `steep`, and it is between 0 and `tall`
pub record IsTame (steep tall : ℤ) (f : ℤ → ℤ) (low last : ℤ) : Type 0 where
  pub least : (n : ℤ) → low ≤ℤ n → n ≤ℤ last → pos 0 ≤ℤ f n
  pub most : (n : ℤ) → low ≤ℤ n → n ≤ℤ last → f n ≤ℤ tall
  pub steps : (n : ℤ) → low ≤ℤ n → n <ℤ last → IsStep steep (f n) (f (n +ℤ pos 1))
