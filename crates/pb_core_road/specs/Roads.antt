-- Ways of a sequential run on which each choice may take any of its branches and all words are zeros.
--
-- w is the setting, o an opener, K the frames below, g a block, and y the number of a branch.
use Rattle.std.specs.Prelude.{◌≡◌, ℕ, ◌<◌, Bool, true, false, List, [], ◌∷◌, ◌++◌}
use Rattle.pb_world.specs.Actions.{Action, Choose, AnswerTable}
use Rattle.pb_world.specs.Sequencer.{state_after}
use Rattle.pb_core_language.specs.Flat.{Origin, Block, stop, message, compute, together, choice, looped, again, Branches, count, branch_at}
use Rattle.pb_core_language.specs.Run.{Setting, Opener, Top, Chosen, Body, Frame, State, move, emit_at, emit, next, first_state, seq}
use Rattle.pb_world.specs.Actions.{Collective}

-- answers without words
abbrev pub mute : (ℕ → List ℕ) → AnswerTable
mute branches r = record { branches = branches r; words = [] }

abbrev pub none : ℕ → List ℕ
none r = []

abbrev pub is_choice : Block → Bool
is_choice (choice origin p k bs g) = true
is_choice stop = false
is_choice (message origin p q l g) = false
is_choice (compute origin p k g) = false
is_choice (together origin j g) = false
is_choice (looped origin b g) = false
is_choice (again n) = false

module _ (w : Setting) where
  -- from one stack to another, with these actions
  pub data Road : List Frame → List (ℕ × Action) → List Frame → Type 0 where
    here : {K : List Frame} → Road K [] K
    goes : {o : Opener} {K : List Frame} (g : Block) {s : List (ℕ × Action)} {K' : List Frame} → is_choice g ≡ false → Road (move o K g 0) s K' → Road (record { opener = o; rest = g } ∷ K) (emit_at w g (mute none) ++ s) K'
    chooses : {origin : Origin} {o : Opener} {K : List Frame} {p k : ℕ} {bs : Branches} {g : Block} {s : List (ℕ × Action)} {K' : List Frame} (y : ℕ) → y < count bs →
        Road (record { opener = Chosen p bs; rest = branch_at y bs } ∷ record { opener = o; rest = g } ∷ K) s K' → Road (record { opener = o; rest = choice origin p k bs g } ∷ K) ((p, Choose k (count bs) y) ∷ s) K'

  -- over some first statements of a block, with these actions, to what is left of it
  pub data Across : Block → List (ℕ × Action) → Block → Type 0 where
    at_once : {g : Block} → Across g [] g
    by_message : {origin : Origin} {p q l : ℕ} {g : Block} {s : List (ℕ × Action)} {g' : Block} → Across g s g' → Across (message origin p q l g) (emit_at w (message origin p q l g) (mute none) ++ s) g'
    by_compute : {origin : Origin} {p k : ℕ} {g : Block} {s : List (ℕ × Action)} {g' : Block} → Across g s g' → Across (compute origin p k g) (emit_at w (compute origin p k g) (mute none) ++ s) g'
    by_together : {origin : Origin} {j : Collective} {g : Block} {s : List (ℕ × Action)} {g' : Block} → Across g s g' → Across (together origin j g) (emit_at w (together origin j g) (mute none) ++ s) g'
    by_choice : {origin : Origin} {p k : ℕ} {bs : Branches} {g : Block} {s t : List (ℕ × Action)} {g' : Block} (y : ℕ) → y < count bs → Across (branch_at y bs) s stop → Across g t g' →
        Across (choice origin p k bs g) ((p, Choose k (count bs) y) ∷ (s ++ t)) g'
    by_loop : {origin : Origin} {b g : Block} {s t : List (ℕ × Action)} {g' : Block} → Across b s stop → Across g t g' → Across (looped origin b g) (s ++ t) g'

  -- there are answers under which so many steps of the run do these actions and come to this stack
  pub record IsRun (protocol : Block) (s : List (ℕ × Action)) (K : List Frame) : Type 0 where
    pub answers : AnswerTable
    pub steps : ℕ
    pub does : seq w protocol answers steps ≡ s
    pub comes : (state_after (emit w) (next w) steps (first_state w protocol answers)).stack ≡ K

  -- each such way is a run
  abbrev pub RoadsAreRuns : Type 0
  RoadsAreRuns = (protocol : Block) (s : List (ℕ × Action)) (K : List Frame) → Road (record { opener = Top; rest = protocol } ∷ []) s K → IsRun protocol s K
