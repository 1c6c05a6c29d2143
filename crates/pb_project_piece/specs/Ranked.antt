-- Areas that hold of a rank.
use Rattle.std.specs.Prelude.{◌≡◌, ℕ, ℤ, pos, ◌+ℤ◌, ◌-ℤ◌, ◌≤ℤ◌, int_le, Bool, true, false, if◌then◌else◌, List}
use Rattle.std.specs.List.{All}
use Rattle.pb_affine.specs.declared.lin.Lin.{Lin}
use Rattle.pb_affine.specs.declared.range.NRange.{NRange}
use Rattle.pb_cases.specs.Breakpoints.{IsCut}
use Rattle.pb_part_areas.specs.declared.area.Area.{Area}
use Rattle.pb_part_areas.specs.Areas.{have}
use Rattle.pb_part_areas.specs.Fits.{Fits}
use Rattle.pb_core_language.specs.Verdict.{IsIn}

-- at some N of the range the areas hold of a rank, and at none before
pub record Ranked (range : NRange) (whole areas : List Area) : Type 0 where
  pub n : ℤ
  pub role : ℕ
  pub index : ℤ
  pub within : IsIn range n
  pub rank : have whole n role index ≡ true
  pub there : have areas n role index ≡ true
  pub least : (m : ℤ) (role : ℕ) (x : ℤ) → IsIn range m → have whole m role x ≡ true → have areas m role x ≡ true → n ≤ℤ m

-- they do, or they hold of none
abbrev pub IsThere : NRange → List Area → List Area → Bool → Type 0
IsThere range whole areas true = Ranked range whole areas
IsThere range whole areas false = (n : ℤ) (role : ℕ) (x : ℤ) → IsIn range n → have whole n role x ≡ true → have areas n role x ≡ false

-- ---- late and early N

-- the areas fit some cuts with small offsets
pub record Fitting (range : NRange) (areas : List Area) : Type 0 where
  pub cuts : List Lin
  pub small : All IsCut cuts
  pub fits : All (Fits range cuts) areas

-- from this N on the ends of a protocol keep their order
abbrev pub late : ℤ
late = pos 3000000

-- the index there that is to all ends what the index x is at a later n: it is as far from 0, or from N, or far from both
abbrev pub brought : ℤ → ℤ → ℤ
brought n x = if int_le x (pos 1500000) then x else (if int_le n (x +ℤ pos 1500000) then (x -ℤ n) +ℤ late else pos 1500000)

-- a test of ranks says the same of those
abbrev pub IsBrought : (ℤ → ℕ → ℤ → Bool) → Type 0
IsBrought test = (n : ℤ) (role : ℕ) (x : ℤ) → late ≤ℤ n → test n role x ≡ test late role (brought n x)
