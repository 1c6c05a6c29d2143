-- How many braces of main are open, and how many statements have begun, behind the lines of its statements.
use Rattle.std.specs.Prelude.{ℕ, ◌+◌, ◌-◌, ◌≤◌, List, [], ◌∷◌, take}
use Rattle.pb_local.specs.Tree.{Program, size_all}
use Rattle.pb_ctree.specs.Lines.{Line}
use Rattle.pb_cread_statements.specs.Fronts.{main_lines}
use Rattle.pb_cread_statements.specs.Marks.{counted, opens, closes, marks_all, begun_in}

-- how many of the lines open a brace, and how many close one
abbrev pub opened : List Line → ℕ
opened [] = 0
opened (l ∷ ls) = counted (opens l.item) (opened ls)

abbrev pub closed : List Line → ℕ
closed [] = 0
closed (l ∷ ls) = counted (closes l.item) (closed ls)

-- the braces that are open behind the first k lines of the statements, main's own with them
abbrev pub open_behind : Program → ℕ → ℕ
open_behind p k = (1 + opened (take k (main_lines p p.body))) - closed (take k (main_lines p p.body))

-- the statements whose first line is one of these
abbrev pub begun_behind : Program → ℕ → ℕ
begun_behind p k = begun_in (take k (marks_all p p.body))

-- the limits are kept behind each of the first k lines
pub record IsWithin (p : Program) (k : ℕ) : Type 0 where
  pub deep : (j : ℕ) → j ≤ k → open_behind p j ≤ 256
  pub many : (j : ℕ) → j ≤ k → begun_behind p j ≤ 50000

-- at most 256 braces are open behind each line, and there are at most 50,000 statements
pub record KeepsLimits (p : Program) : Type 0 where
  pub deep : (k : ℕ) → open_behind p k ≤ 256
  pub many : size_all p.body ≤ 50000
