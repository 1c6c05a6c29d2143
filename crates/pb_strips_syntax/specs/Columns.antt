-- The columns of strips, and what they are called.
--
-- With `role G[0..N-1][0..2]` the columns 0, 1 and 2 of G are the roles `G_0`, `G_1` and `G_2`. Where j has the value 1, the
-- end `G[i][j+1]` is `G_2[i]`.
--
-- v is the value of the variable of the `columns` around, if there is one.
use Rattle.std.specs.Prelude.{ℕ, zero, suc, ◌-◌, ℤ, pos, ◌+ℤ◌, decimal, Option, Some, None, List, [], ◌∷◌, ◌++◌}
use Rattle.pb_text.specs.declared.place.Spot.{Spot}
use Rattle.pb_strips_syntax.specs.declared.tree.Col.{Col}

abbrev pub Name : Type 0
Name = List ℕ

-- 95 is the underscore
abbrev pub column_name : Name → ℕ → Name
column_name strip c = strip ++ 95 ∷ decimal c

-- so many numbers from this one up
abbrev pub up_from : ℕ → ℕ → List ℕ
up_from c zero = []
up_from c (suc count) = c ∷ up_from (suc c) count

-- the numbers from the first to the last, ascending; none where the last is less than the first
abbrev pub numbers : ℕ → ℕ → List ℕ
numbers low high = up_from low (suc high - low)

-- a variable without a value counts as 0
abbrev pub value_of : Option ℕ → ℤ
value_of None = pos 0
value_of (Some v) = pos v

abbrev pub base_value : Option Spot → Option ℕ → ℤ
base_value None v = pos 0
base_value (Some var) v = value_of v

-- the column that an end names
abbrev pub column_of : Col → Option ℕ → ℤ
column_of col v = base_value col.var v +ℤ col.off
