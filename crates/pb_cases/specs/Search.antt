-- The least rank of a region at one N, found among the ends of guards.
use Rattle.std.specs.Prelude.{◌≡◌, ℕ, ◌<◌, length, ℤ, pos, Bool, true, ◌&&◌, if◌then◌else◌, List, [], ◌∷◌, Option, Some, None}
use Rattle.pb_affine.specs.declared.guard.Guard.{Guard}
use Rattle.pb_affine.specs.Values.{value}
use Rattle.pb_cases.specs.declared.region.Wanted.{Wanted}
use Rattle.pb_cases.specs.declared.region.Rank.{Rank}
use Rattle.pb_cases.specs.declared.bad.Bad.{Bad}
use Rattle.pb_cases.specs.Numbers.{nth}
use Rattle.pb_cases.specs.Bounds.{high_end, low_end}
use Rattle.pb_cases.specs.Regions.{is_before, is_wanted}

abbrev pub is_less : ℕ → ℤ → Option Rank → Bool
is_less role x None = true
is_less role x (Some s) = is_before role x s.role s.index

abbrev pub offered : Wanted → List Guard → List Guard → ℤ → ℕ → ℤ → Option Rank → Option Rank
offered wanted a b n role x best = if (is_less role x best && is_wanted wanted a b n role x) then Some (record { role = role; index = x }) else best

-- both ends of a guard, offered
abbrev pub with_both : Wanted → List Guard → List Guard → ℤ → Guard → Option Rank → Option Rank
with_both wanted a b n g best = offered wanted a b n g.role (value (high_end g) n (pos 0)) (offered wanted a b n g.role (value (low_end g) n (pos 0)) best)

-- the ends of the guards, offered in turn
abbrev pub best_of : Wanted → List Guard → List Guard → ℤ → List Guard → Option Rank → Option Rank
best_of wanted a b n [] best = best
best_of wanted a b n (g ∷ gs) best = best_of wanted a b n gs (with_both wanted a b n g best)

abbrev pub best_at : Wanted → List Guard → List Guard → ℤ → Option Rank
best_at wanted a b n = best_of wanted a b n b (best_of wanted a b n a None)

-- a list's first number with a rank
pub record IsFound (wanted : Wanted) (a b : List Guard) (list : List ℤ) (bad : Bad) : Type 0 where
  pub place : ℕ
  pub within : place < length list
  pub is : bad.n ≡ nth list place
  pub best : best_at wanted a b bad.n ≡ Some (record { role = bad.role; index = bad.index })
  pub before : (j : ℕ) → j < place → best_at wanted a b (nth list j) ≡ None

pub record IsNotFound (wanted : Wanted) (a b : List Guard) (list : List ℤ) : Type 0 where
  pub none : (j : ℕ) → j < length list → best_at wanted a b (nth list j) ≡ None

abbrev pub IsOfRole : ℕ → Guard → Type 0
IsOfRole role g = g.role ≡ role
