-- What a file with strips has to do with the file that it stands for.
use Rattle.std.specs.Prelude.{◌≡◌, ℤ, None, map}
use Rattle.pb_core_language.specs.FileRules.{broken}
use Rattle.pb_core_language.specs.Meaning.{meaning, table_of}
use Rattle.pb_core_language.specs.Ranks.{seats}
use Rattle.pb_core_language.specs.Rules.{flat_at}
use Rattle.pb_core_language.specs.Verdict.{IsIn}
use Rattle.pb_strips_syntax.specs.Flattening.{flat_file}
use Rattle.pb_strips_syntax.specs.Strips.{PlainStripFile}
use Rattle.pb_strips_faults.specs.Found.{HasNoFault}
use Rattle.pb_strips_laws.specs.Cells.{cells, seat_of}
use Rattle.pb_strips_laws.specs.Flat.{StripTable, strip, bare}

-- labels and kernels have the numbers that they have in the flat file
abbrev pub strip_table : PlainStripFile → StripTable
strip_table f = record {
  constant = f.constant.name;
  roles = f.roles;
  labels = (table_of (flat_file f)).labels;
  kernels = (table_of (flat_file f)).kernels;
}

-- Each cell has the number of the rank of its column's role, and the flat protocols are the same.
pub record IsFlatOf (f : PlainStripFile) (n : ℤ) : Type 0 where
  pub ranks : map (seat_of f.roles (table_of (flat_file f)).roles) (cells f.constant.name n f.roles) ≡ seats (meaning (flat_file f)).roles n
  pub flat : bare (flat_at (meaning (flat_file f)) n) ≡ strip (strip_table f) n f.body.list

-- Where a file with strips has no fault, and the file that it stands for keeps the rules 1 to 5, so it is for every N of the
-- range.
abbrev pub FlatIsStrip : Type 0
FlatIsStrip = (f : PlainStripFile) → HasNoFault f → broken (flat_file f) ≡ None → (n : ℤ) → IsIn (meaning (flat_file f)).range n → IsFlatOf f n
