-- A line that goes on has numbers that fit 32 bits, and rows of the tables.
use Rattle.std.specs.Prelude.{◌≡◌, ℕ, ◌≤◌, List, Some}
use Rattle.pb_local.specs.Tree.{Program}
use Rattle.pb_ctree.specs.Lines.{Item}
use Rattle.pb_cread_lines.specs.Fits.{FitsNumber, Fits}
use Rattle.pb_cread_lines.specs.Head.{HasHead}
use Rattle.pb_cread_statements.specs.Reading.{State, Place, nothing_read, read, goes_on, open_braces}

-- behind at most 50,000 statements, within at most 256 braces
abbrev pub FitsWhatGoesOn : Type 0
FitsWhatGoesOn = (p : Program) (items : List Place) (s t : State) (depth : ℕ) (item : Item)
    → HasHead p → read p items nothing_read ≡ Some s → s.begun ≤ 50000 → open_braces s ≤ 256 → goes_on p s depth item ≡ Some t → FitsNumber depth × Fits p item
