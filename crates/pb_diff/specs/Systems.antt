-- Systems of constraints on differences, their solutions, and the least of these.
use Rattle.std.specs.Prelude.{◌≡◌, ℕ, ◌^◌, ◌<◌, ◌≤◌, ℤ, pos, ◌+ℤ◌, ◌-ℤ◌, ◌≤ℤ◌, List, [], ◌∷◌, nat_eq, int_lt, Bool, true, false, ◌&&◌, ◌||◌, if◌then◌else◌, get_or, length}
use Rattle.std.specs.List.{All}
use Rattle.pb_diff.specs.declared.constraint.Constraint.{Constraint}

-- x is at most r from zero
pub record IsWithin (r : ℕ) (x : ℤ) : Type 0 where
  pub low : pos 0 ≤ℤ (x +ℤ pos r)
  pub high : x ≤ℤ pos r

-- a system: the number of variables, and the constraints on their differences
pub record Differences : Type 0 where
  pub vars : ℕ
  pub list : List Constraint

-- the numbers keep the constraint a - b <= c
abbrev pub Keeps : (ℕ → ℤ) → Constraint → Type 0
Keeps s k = (s k.a -ℤ s k.b) ≤ℤ k.c

-- a solution: variable 0 is 0, and each constraint is kept
pub record Satisfies (d : Differences) (s : ℕ → ℤ) : Type 0 where
  pub zero_first : s 0 ≡ pos 0
  pub all : All (Keeps s) d.list

-- the number that a list gives to a variable, 0 past its end
abbrev pub number : List ℤ → ℕ → ℤ
number xs v = get_or xs v (pos 0)

-- a solution with no number greater than any other solution has, and 0 at places that are no variables
pub record IsLeastSolution (d : Differences) (xs : List ℤ) : Type 0 where
  pub satisfies : Satisfies d (number xs)
  pub least : (s : ℕ → ℤ) → Satisfies d s → (v : ℕ) → v < d.vars → number xs v ≤ℤ s v
  pub rest : (v : ℕ) → d.vars ≤ v → number xs v ≡ pos 0

pub record IsUnsolvable (d : Differences) : Type 0 where
  pub none : (s : ℕ → ℤ) → Satisfies d s → ⊥

abbrev pub is_on : ℕ → ℕ → Constraint → Bool
is_on a b k = nat_eq k.a a && nat_eq k.b b

-- some constraint is on the pair
abbrev pub has_pair : ℕ → ℕ → List Constraint → Bool
has_pair a b [] = false
has_pair a b (k ∷ ks) = is_on a b k || has_pair a b ks

-- each variable v but 0 has a constraint 0 - v <= c
pub record IsBoundedBelow (d : Differences) : Type 0 where
  pub lows : (v : ℕ) → 0 < v → v < d.vars → has_pair 0 v d.list ≡ true

-- the list with one more constraint: a weaker one on the same pair is replaced
abbrev pub with_constraint : Constraint → List Constraint → List Constraint
with_constraint k [] = k ∷ []
with_constraint k (h ∷ rest) = if is_on k.a k.b h then ((if int_lt k.c h.c then k else h) ∷ rest) else (h ∷ with_constraint k rest)

-- the constraint at a place
abbrev pub at : List Constraint → ℕ → Constraint
at list i = get_or list i (record { a = 0; b = 0; c = pos 0 })

-- a constraint on two variables, within 2 ^ 40 of zero
pub record IsAllowed (vars : ℕ) (k : Constraint) : Type 0 where
  pub a_in : k.a < vars
  pub b_in : k.b < vars
  pub near : IsWithin (2 ^ 40) k.c

-- what is true of every system
pub record IsSystem (d : Differences) : Type 0 where
  pub some : 0 < d.vars
  pub few : d.vars ≤ 6
  pub short : length d.list ≤ 16
  pub allowed : All (IsAllowed d.vars) d.list
