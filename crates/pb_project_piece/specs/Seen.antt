-- A rank of which a test holds, as it is found.
use Rattle.std.specs.Prelude.{◌≡◌, ℕ, ℤ, pos, ◌≤ℤ◌, int_le, Bool, true, false, Option, Some, None, List}
use Rattle.pb_affine.specs.declared.range.NRange.{NRange}
use Rattle.pb_cases.specs.declared.bad.Bad.{Bad}
use Rattle.pb_part_areas.specs.declared.area.Area.{Area}
use Rattle.pb_part_areas.specs.Areas.{has, have}
use Rattle.pb_core_language.specs.Verdict.{IsIn}
use Rattle.pb_project_piece.specs.Ranked.{late}

-- the test holds of all that the area holds of, where there is one
abbrev pub IsPart : Option Area → (ℤ → ℕ → ℤ → Bool) → Type 0
IsPart None test = Unit {0}
IsPart (Some a) test = (n : ℤ) (role : ℕ) (x : ℤ) → has a n role x ≡ true → test n role x ≡ true

-- the same of the ranks of a list alone
abbrev pub IsAmong : List Area → Option Area → (ℤ → ℕ → ℤ → Bool) → Type 0
IsAmong whole None test = Unit {0}
IsAmong whole (Some a) test = (n : ℤ) (role : ℕ) (x : ℤ) → pos 0 ≤ℤ n → have whole n role x ≡ true → has a n role x ≡ true → test n role x ≡ true

-- a rank of which the test holds, at an N that isn't after `late`
pub record Seen (range : NRange) (whole : List Area) (test : ℤ → ℕ → ℤ → Bool) : Type 0 where
  pub n : ℤ
  pub role : ℕ
  pub index : ℤ
  pub within : IsIn range n
  pub rank : have whole n role index ≡ true
  pub there : test n role index ≡ true
  pub few : n ≤ℤ late

-- where the answer is yes, the area is there and has such a rank
abbrev pub IsSeen : NRange → List Area → Option Area → Bool → Type 0
IsSeen range whole part true = (test : ℤ → ℕ → ℤ → Bool) → IsAmong whole part test → Seen range whole test
IsSeen range whole part false = Unit {0}

abbrev pub is_soon : Option Bad → Bool
is_soon None = false
is_soon (Some bad) = int_le bad.n late

-- a rank of which the test holds, at an N that isn't after `late` where the test holds of some rank there
pub record Found (range : NRange) (whole : List Area) (test : ℤ → ℕ → ℤ → Bool) : Type 0 where
  pub n : ℤ
  pub role : ℕ
  pub index : ℤ
  pub within : IsIn range n
  pub rank : have whole n role index ≡ true
  pub there : test n role index ≡ true
  pub soon : (role : ℕ) (x : ℤ) → IsIn range late → have whole late role x ≡ true → test late role x ≡ true → n ≤ℤ late

-- there is such a rank, or the test holds of none
abbrev pub IsFound : NRange → List Area → (ℤ → ℕ → ℤ → Bool) → Bool → Type 0
IsFound range whole test true = Found range whole test
IsFound range whole test false = (n : ℤ) (role : ℕ) (x : ℤ) → IsIn range n → have whole n role x ≡ true → test n role x ≡ false
