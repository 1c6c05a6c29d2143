-- What the bytes of a text say of all that they spell.
use Rattle.std.specs.Prelude.{◌≡◌, ℕ, ◌<◌, ◌^◌, true, List, Some, All, length}
use Rattle.pb_local.specs.Tree.{Program, program_of}
use Rattle.pb_ctree.specs.declared.body.Bodies.{Bodies}
use Rattle.pb_ctree.specs.declared.tree.CTree.{CTree}
use Rattle.pb_ctree.specs.Bodies.{is_body}
use Rattle.pb_ctree.specs.Functions.{functions_of}
use Rattle.pb_ctree.specs.Lines.{Item}
use Rattle.pb_ctree.specs.Texts.{Spells}
use Rattle.pb_cread_frame.specs.Ahead.{spelled_body, words_bodies}
use Rattle.pb_cread_lines.specs.Fits.{FitsNumber, Fits}
use Rattle.pb_cread_lines.specs.Head.{HasHead}
use Rattle.pb_cread_lines.specs.Reading.{IsLine}
use Rattle.pb_cread_statements.specs.Reading.{State, goes_on}
use Rattle.pb_cread.specs.declared.fault.TextFault.{TextFault}
use Rattle.pb_cread.specs.declared.fault.TextFault.TheVariants.{NoMemory}
use Rattle.pb_cread.specs.Faults.{IsFault}
use Rattle.pb_cread.specs.Limits.{KeepsLimits}

-- of two lines with the same bytes that both go on, one is the other
abbrev pub OneLine : Type 0
OneLine = (p : Program) (s u v : State) (line : List ℕ) (d e : ℕ) (a b : Item) → HasHead p → FitsNumber d → Fits p a → IsLine p line d a → goes_on p s d a ≡ Some u → FitsNumber e → Fits p b → IsLine p line e b → goes_on p s e b ≡ Some v
    → (d ≡ e) × (a ≡ b)

-- bodies are spelled as they stand
abbrev pub BodiesAsTheyStand : Type 0
BodiesAsTheyStand = (p : Program) (prelude : List ℕ) (bodies : List (List ℕ)) → is_body prelude ≡ true → All (λ b. is_body b ≡ true) bodies → length bodies ≡ length (functions_of p)
    → (spelled_body prelude ≡ prelude) × (words_bodies p.labels p.kernels bodies ≡ bodies)

-- as each value of the type `Body` is
pub record AreBodies (x : Bodies) : Type 0 where
  pub prelude : is_body x.prelude ≡ true
  pub list : All (λ b. is_body b ≡ true) x.list.items

-- Of two trees with bodies that the same bytes spell, all is the same. Each slice keeps the bound; without it this isn't
-- so, since of the number of a loop no more than the last 64 digits are written.
abbrev pub OneText : Type 0
OneText = (a b : CTree) (x y : Bodies) (bytes : List ℕ) → length bytes < 2 ^ 64 → AreBodies x → AreBodies y → Spells a x bytes → Spells b y bytes
    → (program_of a.local ≡ program_of b.local) × (a.size ≡ b.size) × (a.bases.items ≡ b.bases.items) × (a.places.items ≡ b.places.items) × (x.prelude ≡ y.prelude) × (x.list.items ≡ y.list.items)

-- want of memory is the only fault of a spelling that keeps the limits
abbrev pub NoFaultOfASpelling : Type 0
NoFaultOfASpelling = (tree : CTree) (bodies : Bodies) (bytes : List ℕ) → Spells tree bodies bytes → AreBodies bodies → KeepsLimits (program_of tree.local)
    → (f : TextFault) → IsFault bytes f → f ≡ NoMemory
