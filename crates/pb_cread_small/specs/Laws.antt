-- Which programs keep the limits of a text, and that their texts are read.
use Rattle.std.specs.Prelude.{◌≡◌, ℕ, ◌≤◌, List}
use Rattle.pb_local.specs.Tree.{Program, program_of, size_all}
use Rattle.pb_ctree.specs.declared.body.Bodies.{Bodies}
use Rattle.pb_ctree.specs.declared.tree.CTree.{CTree}
use Rattle.pb_ctree.specs.Texts.{Spells}
use Rattle.pb_cread.specs.declared.fault.TextFault.{TextFault}
use Rattle.pb_cread.specs.declared.fault.TextFault.TheVariants.{NoMemory}
use Rattle.pb_cread.specs.Faults.{IsFault}
use Rattle.pb_cread.specs.Limits.{KeepsLimits}
use Rattle.pb_cread_unique.specs.Laws.{AreBodies}
use Rattle.pb_shape.specs.Sizes.{braces_all}

-- one brace is main's own
abbrev pub SmallKeepsLimits : Type 0
SmallKeepsLimits = (p : Program) → size_all p.body ≤ 50000 → braces_all p.body ≤ 255 → KeepsLimits p

-- of the text of such a program no fault is true but want of memory
abbrev pub SmallIsRead : Type 0
SmallIsRead =
    (tree : CTree) (bodies : Bodies) (bytes : List ℕ) → Spells tree bodies bytes → AreBodies bodies → size_all (program_of tree.local).body ≤ 50000 →
    braces_all (program_of tree.local).body ≤ 255 → (f : TextFault) → IsFault bytes f → f ≡ NoMemory
