-- Where a region first holds.
use Rattle.std.specs.Prelude.{◌≡◌, ℕ, ℤ, pos, ◌+ℤ◌, ◌≤ℤ◌, Bool, true, if◌then◌else◌, Option, Some, None, MatchOption}
use Rattle.pb_affine.specs.declared.range.NRange.{NRange}
use Rattle.pb_cases.specs.declared.bad.Bad.{Bad}
use Rattle.pb_cases.specs.Breakpoints.{IsInRange}
use Rattle.pb_cases.specs.Regions.{IsFirst, IsNowhere}
use Rattle.pb_cases.specs.Roles.{is_earlier}
use Rattle.pb_part_areas.specs.declared.area.Area.{Area}
use Rattle.pb_part_areas.specs.Areas.{has, at}

abbrev pub is_earlier_than : ℤ → ℕ → ℤ → Option Bad → Bool
is_earlier_than n r x None = true
is_earlier_than n r x (Some b) = is_earlier n r x b.n b.role b.index

abbrev pub earlier : Option Bad → Option Bad → Option Bad
earlier best None = best
earlier best (Some c) = if is_earlier_than c.n c.role c.index best then Some c else best

-- the first rank of a region, or that there is none
abbrev pub IsBest : NRange → (ℤ → ℕ → ℤ → Bool) → Option Bad → Type 0
IsBest range region o = MatchOption o (IsNowhere range region) (λ bad. IsFirst range region bad.n bad.role bad.index)

-- n is in reach from below, and where the area holds at an N of the range, it does so at n or later, and there are indices at n if it goes on to there
pub record IsEarliest (a : Area) (range : NRange) (n : ℤ) : Type 0 where
  pub low : pos range.low ≤ℤ n
  pub from : pos a.from ≤ℤ n
  pub least : (m : ℤ) (role : ℕ) (x : ℤ) → IsInRange range m → has a m role x ≡ true → n ≤ℤ m
  pub there : (m : ℤ) (role : ℕ) (x : ℤ) → IsInRange range m → has a m role x ≡ true → (at a.low n +ℤ pos 1) ≤ℤ at a.end n
