-- The ranks of a file with strips at one N: its cells, and the number of each.
--
-- With `role M, role G[0..N-1][0..1]` there are at N = 2, in their order, the cells
--     M[0], G[0][0], G[1][0], G[0][1], G[1][1]
-- Those of a strip are ordered by column, then by row.
--
-- n is N.
use Rattle.std.specs.Prelude.{ℕ, zero, suc, ℤ, pos, Bool, true, false, ◌&&◌, nat_eq, if◌then◌else◌, Option, Some, None, List, [], ◌∷◌, ◌++◌}
use Rattle.std.specs.Ordering.{int_eq}
use Rattle.pb_affine.specs.Values.{value, range}
use Rattle.pb_syntax.specs.declared.tree.RangeText.{RangeText}
use Rattle.pb_core_language.specs.Meaning.{bounds_of, position_of}
use Rattle.pb_core_language.specs.Names.{Name}
use Rattle.pb_core_language.specs.Ranks.{Seat}
use Rattle.pb_strips_syntax.specs.declared.tree.StripRole.{StripRole}
use Rattle.pb_strips_syntax.specs.Columns.{column_name, numbers}

-- a role of the file by its number, an index, and the column if the role is a strip
pub record Cell : Type 0 where
  pub role : ℕ
  pub row : ℤ
  pub column : Option ℕ

abbrev pub column_eq : Option ℕ → Option ℕ → Bool
column_eq None None = true
column_eq (Some c) (Some d) = nat_eq c d
column_eq other _ = false

abbrev pub cell_eq : Cell → Cell → Bool
cell_eq a b = nat_eq a.role b.role && (int_eq a.row b.row && column_eq a.column b.column)

module _ (constant : Name) (n : ℤ) where
  -- the indices of a role; a role without a range has the index 0 alone
  abbrev pub rows_of : Option RangeText → List ℤ
  rows_of None = pos 0 ∷ []
  rows_of (Some over) = range (value (bounds_of constant over).low n (pos 0)) (value (bounds_of constant over).high n (pos 0))

  abbrev pub cells_in : ℕ → Option ℕ → List ℤ → List Cell
  cells_in k column [] = []
  cells_in k column (x ∷ xs) = record { role = k; row = x; column = column } ∷ cells_in k column xs

  -- column by column
  abbrev pub cells_over : ℕ → List ℤ → List ℕ → List Cell
  cells_over k rows [] = []
  cells_over k rows (c ∷ cs) = cells_in k (Some c) rows ++ cells_over k rows cs

  abbrev pub cells_of : ℕ → List ℤ → Option (ℕ × ℕ) → List Cell
  cells_of k rows None = cells_in k None rows
  cells_of k rows (Some ends) = cells_over k rows (numbers ends.0 ends.1)

  abbrev pub cells_from : ℕ → List StripRole → List Cell
  cells_from k [] = []
  cells_from k (r ∷ rs) = cells_of k (rows_of r.range) r.columns ++ cells_from (suc k) rs

  abbrev pub cells : List StripRole → List Cell
  cells roles = cells_from 0 roles

-- a cell's number is its position among the cells; the list's length where it isn't there
abbrev pub number_in : Cell → List Cell → ℕ
number_in a [] = 0
number_in a (b ∷ bs) = if cell_eq a b then 0 else suc (number_in a bs)

-- ---- the roles of the flat file that cells belong to

abbrev pub role_at : List StripRole → ℕ → Name
role_at [] k = []
role_at (r ∷ rs) zero = r.role.name
role_at (r ∷ rs) (suc k) = role_at rs k

abbrev pub flat_name : Name → Option ℕ → Name
flat_name role None = role
flat_name role (Some c) = column_name role c

-- the seat of a cell, where the flat file's roles have these names
abbrev pub seat_of : List StripRole → List Name → Cell → Seat
seat_of roles names cell = record { role = position_of (flat_name (role_at roles cell.role) cell.column) names; index = cell.row }
