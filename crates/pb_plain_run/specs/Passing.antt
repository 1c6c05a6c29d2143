-- A block that can end, and a run without answers.
use Rattle.std.specs.Prelude.{◌≡◌, ℕ, ◌≤◌, true, List, [], ◌∷◌}
use Rattle.pb_world.specs.Actions.{AnswerTable}
use Rattle.pb_world.specs.Sequencer.{state_after}
use Rattle.pb_core_language.specs.Flat.{Block, stop, message, compute, together, choice, looped, again, can_end}
use Rattle.pb_core_language.specs.Run.{Setting, Opener, Frame, State, emit, next}

-- a block with another behind it; nothing is done behind a continue
abbrev pub followed_by : Block → Block → Block
followed_by stop rest = rest
followed_by (message a p q l g) rest = message a p q l (followed_by g rest)
followed_by (compute a p k g) rest = compute a p k (followed_by g rest)
followed_by (together a j g) rest = together a j (followed_by g rest)
followed_by (choice a p k bs g) rest = choice a p k bs (followed_by g rest)
followed_by (looped a b g) rest = looped a b (followed_by g rest)
followed_by (again n) rest = again n

-- no rank has an answer
abbrev pub IsEmpty : AnswerTable → Type 0
IsEmpty A = (r : ℕ) → A r ≡ record { branches = []; words = [] }

-- what is still to do where this is left of a block, in front of what stands around it
abbrev pub standing : Opener → Block → List Frame → AnswerTable → State
standing opener rest around A = record { stack = record { opener = opener; rest = rest } ∷ around; left = A }

-- within so many steps, and with no answer still, the run is at the rest behind the block
abbrev pub PassesWithin : ℕ → Setting → Block → Opener → Block → List Frame → AnswerTable → Type 0
PassesWithin bound w block opener rest around A =
    (steps : ℕ) × (B : AnswerTable) × (steps ≤ bound) × IsEmpty B
    × (state_after (emit w) (next w) steps (standing opener (followed_by block rest) around A) ≡ standing opener rest around B)

-- Without answers, a block that can end is passed within so many steps, the same wherever it stands and whatever stands
-- behind it.
abbrev pub Passed : Type 0
Passed =
    (block : Block) → can_end block ≡ true →
    (bound : ℕ) × ((w : Setting) (opener : Opener) (rest : Block) (around : List Frame) (A : AnswerTable) → IsEmpty A → PassesWithin bound w block opener rest around A)
