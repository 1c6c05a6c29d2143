-- The ranks that areas hold of.
use Rattle.std.specs.Prelude.{◌≡◌, ℕ, ℤ, pos, ◌≤ℤ◌, ◌<ℤ◌, Bool, true, false, ◌&&◌, ◌||◌, nat_eq, int_le, int_lt, Option, Some, None, List, [], ◌∷◌}
use Rattle.std.specs.List.{All}
use Rattle.pb_affine.specs.declared.lin.Base.{Base}
use Rattle.pb_affine.specs.declared.lin.Base.TheVariants.{Fixed, Param, Var}
use Rattle.pb_affine.specs.declared.lin.Lin.{Lin}
use Rattle.pb_affine.specs.Values.{value}
use Rattle.pb_part_areas.specs.declared.area.Area.{Area}
use Rattle.pb_part_areas.specs.declared.cut.Two.{Two}

-- it grows with N
abbrev pub is_param : Base → Bool
is_param Fixed = false
is_param Param = true
is_param Var = false

-- the value of a lin without a variable at N = n; a variable counts as 0
abbrev pub at : Lin → ℤ → ℤ
at l n = value l n (pos 0)

-- an end of the numbers N that isn't there holds
abbrev pub is_before : ℤ → Option ℕ → Bool
is_before n None = true
is_before n (Some b) = int_lt n (pos b)

-- n is one of the numbers N that the area speaks of
abbrev pub is_when : ℤ → Area → Bool
is_when n a = int_le (pos a.from) n && is_before n a.until

-- the area holds of this role and index at N = n
abbrev pub has : Area → ℤ → ℕ → ℤ → Bool
has a n role x = nat_eq role a.role && int_le (at a.low n) x && int_lt x (at a.end n) && int_le (pos a.from) n && is_before n a.until

-- some area holds
abbrev pub have : List Area → ℤ → ℕ → ℤ → Bool
have [] n role x = false
have (a ∷ rest) n role x = has a n role x || have rest n role x

abbrev pub have_two : Two → ℤ → ℕ → ℤ → Bool
have_two t n role x = has t.first n role x || has t.second n role x

-- at some N the area holds of some index
pub record IsSomewhere (a : Area) : Type 0 where
  pub n : ℤ
  pub role : ℕ
  pub index : ℤ
  pub there : has a n role index ≡ true

-- no area of the list is empty
abbrev pub AreSomewhere : List Area → Type 0
AreSomewhere list = All IsSomewhere list

-- at each N that the area speaks of, its end isn't below its low end
pub record IsUpright (a : Area) : Type 0 where
  pub upright : (n : ℤ) → is_when n a ≡ true → at a.low n ≤ℤ at a.end n

-- at some N that the area speaks of, its end is below its low end
pub record LiesBack (a : Area) : Type 0 where
  pub n : ℤ
  pub when : is_when n a ≡ true
  pub back : at a.end n <ℤ at a.low n
