-- The reader, and the lines that it awaits.
use Rattle.std.specs.Prelude.{◌≡◌, ℕ, ◌≤◌, Bool, true, List, map, drop, length, Option, Some, None, if◌then◌else◌}
use Rattle.std.specs.Global.{Vec}
use Rattle.std.specs.List.{All}
use Rattle.pb_local.specs.declared.tables.Local.{Local}
use Rattle.pb_ctree.specs.Bodies.{is_body}
use Rattle.pb_ctree.specs.Sums.{HasSmallEnds}
use Rattle.pb_cread_frame.specs.declared.reader.Phase.{Phase}
use Rattle.pb_cread_frame.specs.declared.reader.Phase.TheVariants.{Protocol, Range, Roles, Labels, Body, Kernels, Statements}
use Rattle.pb_cread_frame.specs.declared.reader.Owner.{Owner}
use Rattle.pb_cread_frame.specs.declared.reader.Owner.TheVariants.{Prelude, Make, Take, Kernel}
use Rattle.pb_cread_frame.specs.declared.reader.FrameReader.{FrameReader}
use Rattle.pb_cread_rows.specs.Spelled.{names_of_roles, names_of_labels, names_of_kernels}
use Rattle.pb_cread_frame.specs.Reading as R

abbrev pub texts_of : List (Vec ℕ) → List (List ℕ)
texts_of lines = map (λ l. l.items) lines

abbrev pub owner_of : Local → Owner → R.Owner
owner_of local Prelude = R.of_prelude
owner_of local (Make label behind) = R.of_make label (drop behind local.labels.items)
owner_of local (Take behind) = R.of_take (drop behind local.labels.items)
owner_of local Kernel = R.of_kernel

abbrev pub phase_of : Local → Phase → R.Phase
phase_of local Protocol = R.at_protocol
phase_of local Range = R.at_range
phase_of local Roles = R.at_roles
phase_of local Labels = R.at_labels
phase_of local (Body owner) = R.in_body (owner_of local owner)
phase_of local Kernels = R.at_kernels
phase_of local Statements = R.at_statements

abbrev pub read_of : FrameReader → R.Read
read_of r = record {
  protocol = r.local.protocol;
  range = r.local.range;
  roles = r.local.roles.items;
  labels = r.local.labels.items;
  kernels = r.local.kernels.items;
  prelude = r.prelude;
  bodies = r.bodies.items;
  text = r.text.items;
}

abbrev pub state_of : FrameReader → R.State
state_of r = R.state (read_of r) (drop r.at (texts_of r.awaited.items)) (phase_of r.local r.phase)

-- what the reader keeps of its rows and of the body that is open
pub record IsReader (r : FrameReader) : Type 0 where
  pub few : length r.local.roles.items ≤ 64
  pub small : All HasSmallEnds r.local.roles.items
  pub body : is_body r.text.items ≡ true
  pub named_roles : r.role_names ≡ names_of_roles r.local.roles.items
  pub named_labels : r.label_names ≡ names_of_labels r.local.labels.items
  pub named_kernels : r.kernel_names ≡ names_of_kernels r.local.kernels.items

-- whether the line went on, and to which state
abbrev pub Went : Option R.State → Bool → R.State → Type 0
Went step went new = step ≡ (if went then Some new else None)
