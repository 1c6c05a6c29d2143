-- A table of bounds: cell (a, b) has the least c for which a - b <= c is asked.
use Rattle.std.specs.Prelude.{◌≡◌, ℕ, ◌+◌, ◌-◌, ◌*◌, ◌^◌, ◌<◌, ◌≤◌, ℤ, pos, ◌+ℤ◌, ◌-ℤ◌, ◌≤ℤ◌, int_le, if◌then◌else◌, Option, Some, None, List, get_or, length}
use Rattle.pb_diff.specs.Systems.{IsWithin, number}

abbrev pub IsWithinIf : ℕ → Option ℤ → Type 0
IsWithinIf r None = Unit {0}
IsWithinIf r (Some c) = IsWithin r c

-- the bound, where there is one, holds of the difference
abbrev pub Holds : Option ℤ → ℤ → Type 0
Holds None d = Unit {0}
Holds (Some c) d = d ≤ℤ c

abbrev pub IsThere : Option ℤ → Type 0
IsThere None = ⊥
IsThere (Some c) = Unit {0}

abbrev pub cell : List (Option ℤ) → ℕ → ℕ → Option ℤ
cell t a b = get_or t (6 * a + b) None

-- the bound that follows by way of a variable that goes
abbrev pub through : Option ℤ → Option ℤ → Option ℤ → Option ℤ
through d None y = d
through d (Some x) None = d
through None (Some x) (Some y) = Some (x +ℤ y)
through (Some d) (Some x) (Some y) = Some (if int_le d (x +ℤ y) then d else (x +ℤ y))

pub record IsNearTable (r : ℕ) (t : List (Option ℤ)) : Type 0 where
  pub cells : (j : ℕ) → j < 36 → IsWithinIf r (get_or t j None)

-- each variable but 0 has a low bound
pub record HasLows (t : List (Option ℤ)) (vars : ℕ) : Type 0 where
  pub lows : (v : ℕ) → 0 < v → v < vars → IsThere (cell t 0 v)

-- u is t with the variable k gone
pub record IsEliminated (k : ℕ) (t u : List (Option ℤ)) : Type 0 where
  pub cells : (a b : ℕ) → a < 6 → b < 6 → cell u a b ≡ through (cell t a b) (cell t a k) (cell t k b)

-- the numbers satisfy the bounds among the first variables
pub record Solves (t : List (Option ℤ)) (vars : ℕ) (s : ℕ → ℤ) : Type 0 where
  pub bounds : (a b : ℕ) → a < vars → b < vars → Holds (cell t a b) (s a -ℤ s b)

pub record HasNoSolution (t : List (Option ℤ)) (vars : ℕ) : Type 0 where
  pub none : (s : ℕ → ℤ) → s 0 ≡ pos 0 → Solves t vars s → ⊥

-- the limit of the cells while there are this many variables
unfoldable pub reach : ℕ → ℕ
reach vars = 2 ^ (46 - vars)

pub record IsLeast (t : List (Option ℤ)) (vars : ℕ) (xs : List ℤ) : Type 0 where
  pub size : length xs ≡ 6
  pub zero_first : number xs 0 ≡ pos 0
  pub solves : Solves t vars (number xs)
  pub least : (s : ℕ → ℤ) → s 0 ≡ pos 0 → Solves t vars s → (v : ℕ) → v < vars → number xs v ≤ℤ s v
  pub rest : (v : ℕ) → vars ≤ v → number xs v ≡ pos 0
  pub near : (v : ℕ) → IsWithin (2 ^ 45 - reach vars) (number xs v)

-- some variable's number reaches the value y for the variable k
pub record IsMet (t : List (Option ℤ)) (xs : List ℤ) (k count : ℕ) (y : ℤ) : Type 0 where
  pub a : ℕ
  pub below : a < count
  pub c : ℤ
  pub bound : cell t a k ≡ Some c
  pub is : y ≡ number xs a -ℤ c

pub record IsAbove (t : List (Option ℤ)) (xs : List ℤ) (k count : ℕ) (y : ℤ) : Type 0 where
  pub holds : (a : ℕ) → a < count → Holds (cell t a k) (number xs a -ℤ y)
