-- A table of distinct names, each known by its position.
use Rattle.std.specs.Prelude.{◌≡◌, ◌≢◌, ℕ, ◌<◌, ◌^◌, List, [], ◌∷◌, ◌++◌, length, Option, MatchOption, nat_eq, position, slice_index_or}
use Rattle.std.specs.Cmp.Lexicographic.{pointwise}

-- no name stands twice
abbrev pub AreDistinct : List (List ℕ) → Type 0
AreDistinct names = (i j : ℕ) → i < j → j < length names → slice_index_or names i [] ≢ slice_index_or names j []

pub record IsTable (names : List (List ℕ)) : Type 0 where
  pub distinct : AreDistinct names
  pub few : length names < 2 ^ 32

-- where the name stands
abbrev pub position_of : List ℕ → List (List ℕ) → Option ℕ
position_of name names = position (pointwise nat_eq name) names

-- a name that is there keeps its position and changes nothing; a new one goes last
abbrev pub IsInterned : List (List ℕ) → List ℕ → ℕ → List (List ℕ) → Type 0
IsInterned old name id new =
    MatchOption (position_of name old) ((id ≡ length old) × (new ≡ old ++ name ∷ [])) (λ place. (id ≡ place) × (new ≡ old))
