-- Areas that are put together.
use Rattle.std.specs.Prelude.{◌≡◌, ◌<◌, ◌≤◌, ◌+◌, ◌⊎◌, ℕ, ℤ, pos, ◌||◌, Option, Some, None, IfSome, List, length, get_or}
use Rattle.pb_affine.specs.declared.lin.Base.TheVariants.{Fixed}
use Rattle.pb_affine.specs.declared.lin.Lin.{Lin}
use Rattle.pb_affine.specs.declared.range.NRange.{NRange}
use Rattle.pb_part_areas.specs.declared.area.Area.{Area}
use Rattle.pb_part_areas.specs.Areas.{has, IsUpright}
use Rattle.pb_part_areas.specs.Fits.{Fits}

-- the area that stands past the end of a list
abbrev pub blank : Area
blank = record { role = 0; low = record { base = Fixed; off = pos 0 }; end = record { base = Fixed; off = pos 0 }; from = 0; until = None }

-- the area m holds of what a or b holds of, and has its ends from them
pub record IsUnion (a b m : Area) : Type 0 where
  pub is : (n : ℤ) (role : ℕ) (x : ℤ) → has m n role x ≡ has a n role x || has b n role x
  pub fits : (range : NRange) (cuts : List Lin) → Fits range cuts a → Fits range cuts b → Fits range cuts m

-- the number is before the end, if there is one
abbrev pub IsOpen : ℕ → Option ℕ → Type 0
IsOpen from until = IfSome until (λ b. from < b)

-- a ends at the index where b begins, for the same N, and neither lies back
pub record IsBeside (a b : Area) : Type 0 where
  pub role : a.role ≡ b.role
  pub meet : a.end ≡ b.low
  pub from : a.from ≡ b.from
  pub until : a.until ≡ b.until
  pub first : IsUpright a
  pub second : IsUpright b
  pub opens : IsOpen a.from a.until

-- a ends at the N where b begins, with the same indices
pub record IsFollowed (a b : Area) : Type 0 where
  pub role : a.role ≡ b.role
  pub low : a.low ≡ b.low
  pub end : a.end ≡ b.end
  pub meet : a.until ≡ Some b.from
  pub first : IsOpen a.from a.until
  pub second : IsOpen b.from b.until

-- one area says the same as both
abbrev pub AreInOrder : Area → Area → Type 0
AreInOrder a b = IsBeside a b ⊎ IsFollowed a b

abbrev pub AreNeighbours : Area → Area → Type 0
AreNeighbours a b = AreInOrder a b ⊎ AreInOrder b a

-- how many areas of a list, from its end, a new one is tried with
abbrev pub tried : ℕ
tried = 64

-- none of the last areas of the list is a neighbour
pub record HasNoNeighbour (list : List Area) (a : Area) : Type 0 where
  pub none : (i : ℕ) → i < length list → length list ≤ i + tried → AreNeighbours (get_or list i blank) a → ⊥

-- from a place on no two areas of the list are neighbours
pub record IsJoinedFrom (from : ℕ) (list : List Area) : Type 0 where
  pub apart : (i j : ℕ) → from ≤ i → i < j → j < length list → AreNeighbours (get_or list i blank) (get_or list j blank) → ⊥

-- the last area of the list is no neighbour of those that stand shortly before it
pub record IsJoinedLast (list : List Area) : Type 0 where
  pub apart : (i j : ℕ) → i < j → j + 1 ≡ length list → j ≤ i + tried → AreNeighbours (get_or list i blank) (get_or list j blank) → ⊥

-- m is the area at a place of the list, put together with a
pub record IsJoin (list : List Area) (a : Area) (place : ℕ) (m : Area) : Type 0 where
  pub within : place < length list
  pub union : IsUnion (get_or list place blank) a m
