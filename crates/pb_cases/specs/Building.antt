-- What is true of the list of breakpoints while it is built.
use Rattle.std.specs.Prelude.{◌≡◌, ℕ, ◌<◌, ◌≤◌, ℤ, pos, ◌+ℤ◌, ◌-ℤ◌, ◌⊎◌, List, length, get_or}
use Rattle.pb_affine.specs.declared.lin.Base.TheVariants.{Fixed, Param}
use Rattle.pb_affine.specs.declared.lin.Lin.{Lin}
use Rattle.pb_affine.specs.declared.range.NRange.{NRange}
use Rattle.pb_cases.specs.Numbers.{IsAscending, nth}
use Rattle.pb_cases.specs.Breakpoints.{IsBreakpoint, IsInRange}

pub record IsOneOf (list : List ℤ) (z : ℤ) : Type 0 where
  pub place : ℕ
  pub within : place < length list
  pub is : nth list place ≡ z

pub record IsAdded (range : NRange) (m : ℤ) (old new : List ℤ) : Type 0 where
  pub ascending : IsAscending new
  pub own : IsInRange range m → IsOneOf new m
  pub kept : (z : ℤ) → IsOneOf old z → IsOneOf new z
  pub only : (z : ℤ) → IsOneOf new z → IsOneOf old z ⊎ ((z ≡ m) × IsInRange range m)

-- ascending, of breakpoints alone, and with the low end
pub record IsPartOfAll (range : NRange) (cuts : List Lin) (list : List ℤ) : Type 0 where
  pub ascending : IsAscending list
  pub sound : (z : ℤ) → IsOneOf list z → IsBreakpoint range cuts z
  pub first : IsOneOf list (pos range.low)

-- the list has what the two cuts give
pub record HasMeeting (range : NRange) (list : List ℤ) (d c : Lin) : Type 0 where
  pub here : d.base ≡ Fixed → c.base ≡ Param → IsInRange range (d.off -ℤ c.off) → IsOneOf list (d.off -ℤ c.off)
  pub next : d.base ≡ Fixed → c.base ≡ Param → IsInRange range ((d.off -ℤ c.off) +ℤ pos 1) → IsOneOf list ((d.off -ℤ c.off) +ℤ pos 1)

pub record IsAddedTwice (range : NRange) (m : ℤ) (old new : List ℤ) : Type 0 where
  pub ascending : IsAscending new
  pub here : IsInRange range m → IsOneOf new m
  pub next : IsInRange range (m +ℤ pos 1) → IsOneOf new (m +ℤ pos 1)
  pub kept : (z : ℤ) → IsOneOf old z → IsOneOf new z
  pub only : (z : ℤ) → IsOneOf new z → IsOneOf old z ⊎ (((z ≡ m) ⊎ (z ≡ m +ℤ pos 1)) × IsInRange range z)

abbrev pub cut_at : List Lin → ℕ → Lin
cut_at cuts i = get_or cuts i (record { base = Fixed; off = pos 0 })

-- all that the cut d gives with the first cuts
pub record HasMeetings (range : NRange) (cuts : List Lin) (old new : List ℤ) (d : Lin) (done : ℕ) : Type 0 where
  pub part : IsPartOfAll range cuts new
  pub kept : (z : ℤ) → IsOneOf old z → IsOneOf new z
  pub all : (q : ℕ) → q < done → HasMeeting range new d (cut_at cuts q)

-- all that the first cuts give
pub record HasAllMeetings (range : NRange) (cuts : List Lin) (list : List ℤ) (done : ℕ) : Type 0 where
  pub part : IsPartOfAll range cuts list
  pub few : length list ≤ 4096
  pub all : (p q : ℕ) → p < done → q < length cuts → HasMeeting range list (cut_at cuts p) (cut_at cuts q)
