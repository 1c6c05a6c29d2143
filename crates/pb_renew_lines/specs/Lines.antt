-- The lines of a text, with their numbers, and which of them stand in bodies.
use Rattle.std.specs.Prelude.{ℕ, Bool, false, not, ◌&&◌, nat_lt, if◌then◌else◌, List, [], ◌∷◌, Option, drop, find}
use Rattle.std.specs.Option.{option_map}
use Rattle.std.specs.List.{prefix_len}
use Rattle.pb_text.specs.Lexemes.{is_blank}
use Rattle.pb_text.specs.Places.{one_more}
use Rattle.pb_ctree.specs.Bodies.{is_marker}
use Rattle.pb_kernels.specs.Files.{lines}
use Rattle.pb_kernels.specs.Marks.{are_blank}
use Rattle.pb_renew_lines.specs.declared.scan.Sought.{Sought}
use Rattle.pb_renew_lines.specs.declared.scan.Sought.TheVariants.{Indented, Stray}

-- a line, and whether a body is open in front of it
pub record Row : Type 0 where
  pub number : ℕ
  pub is_inside : Bool
  pub line : List ℕ

-- the markers of a kernel file open and close bodies in turn
abbrev pub behind : Bool → List ℕ → Bool
behind is_inside line = if is_marker line then not is_inside else is_inside

-- lines from this number on
abbrev pub rows_from : ℕ → Bool → List (List ℕ) → List Row
rows_from number is_inside [] = []
rows_from number is_inside (line ∷ rest) = record { number = number; is_inside = is_inside; line = line } ∷ rows_from (one_more number) (behind is_inside line) rest

abbrev pub rows : List ℕ → List Row
rows bytes = rows_from 1 false (lines bytes)

-- blanks, and behind them what a marker begins with
abbrev pub is_indented : List ℕ → Bool
is_indented line = nat_lt 0 (prefix_len is_blank line) && is_marker (drop (prefix_len is_blank line) line)

-- a line outside of bodies that is no marker, and isn't blank
abbrev pub is_stray : Bool → List ℕ → Bool
is_stray is_inside line = not is_inside && not (is_marker line) && not (are_blank line)

abbrev pub is_sought : Sought → Bool → List ℕ → Bool
is_sought Indented is_inside line = is_indented line
is_sought Stray is_inside line = is_stray is_inside line

-- the number of the first of some rows that is sought
abbrev pub number_in : Sought → List Row → Option ℕ
number_in sought list = option_map (λ row. row.number) (find (λ row. is_sought sought row.is_inside row.line) list)

abbrev pub first_number : Sought → List ℕ → Option ℕ
first_number sought bytes = number_in sought (rows bytes)

abbrev pub first_indented : List ℕ → Option ℕ
first_indented bytes = first_number Indented bytes

abbrev pub first_stray : List ℕ → Option ℕ
first_stray bytes = first_number Stray bytes
