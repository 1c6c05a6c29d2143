-- The guards of one role, and the earliest answer of several roles.
use Rattle.std.specs.Prelude.{◌≡◌, ℕ, ◌<◌, ℤ, Bool, true, false, ◌&&◌, ◌||◌, nat_eq, int_lt, if◌then◌else◌, List, [], ◌∷◌, get_or, Option, Some, None}
use Rattle.std.specs.Ordering.{int_eq}
use Rattle.pb_affine.specs.declared.guard.Guard.{Guard}
use Rattle.pb_affine.specs.declared.range.NRange.{NRange}
use Rattle.pb_cases.specs.declared.region.Wanted.{Wanted}
use Rattle.pb_cases.specs.declared.bad.Bad.{Bad}
use Rattle.pb_cases.specs.Breakpoints.{IsInRange}
use Rattle.pb_cases.specs.Regions.{is_before, is_wanted}

abbrev pub of_role : ℕ → List Guard → List Guard
of_role role [] = []
of_role role (g ∷ gs) = if nat_eq role g.role then (g ∷ of_role role gs) else of_role role gs

abbrev pub is_earlier : ℤ → ℕ → ℤ → ℤ → ℕ → ℤ → Bool
is_earlier m r x n s y = int_lt m n || (int_eq m n && is_before r x s y)

abbrev pub is_earlier_than : ℤ → ℕ → ℤ → Option Bad → Bool
is_earlier_than m r x None = true
is_earlier_than m r x (Some b) = is_earlier m r x b.n b.role b.index

abbrev pub earlier : Option Bad → Option Bad → Option Bad
earlier best None = best
earlier best (Some c) = if is_earlier_than c.n c.role c.index best then Some c else best

abbrev pub guard_at : List Guard → ℕ → Guard
guard_at gs k = get_or gs k (record { role = 0; low = None; high = None; from = None; to = None })

abbrev pub IsSoundBad : NRange → Wanted → List Guard → List Guard → Option Bad → Type 0
IsSoundBad range wanted a b None = Unit {0}
IsSoundBad range wanted a b (Some bad) = IsInRange range bad.n × (is_wanted wanted a b bad.n bad.role bad.index ≡ true)

-- the answer for the roles of the first guards
pub record IsSoFar (range : NRange) (wanted : Wanted) (a b : List Guard) (done : ℕ) (o : Option Bad) : Type 0 where
  pub sound : IsSoundBad range wanted a b o
  pub least : (k : ℕ) → k < done → (m x : ℤ) → IsInRange range m → is_wanted wanted a b m (guard_at a k).role x ≡ true → is_earlier_than m (guard_at a k).role x o ≡ false

-- a guard before a place has the role
pub record HasRoleBefore (gs : List Guard) (done role : ℕ) : Type 0 where
  pub place : ℕ
  pub before : place < done
  pub same : (guard_at gs place).role ≡ role
