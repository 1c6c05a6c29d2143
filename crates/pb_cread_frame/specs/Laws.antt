-- What reading lines one after the other says of them.
use Rattle.std.specs.Prelude.{◌≡◌, ℕ, true, false, List, [], ◌∷◌, ◌++◌, All, map, length, drop, Option, Some, None}
use Rattle.pb_local.specs.Tree.{Program}
use Rattle.pb_ctree.specs.Frame.{text_lines}
use Rattle.pb_ctree.specs.Texts.{IsFront}
use Rattle.pb_cread_frame.specs.Ahead.{Shown, sure, Rest, ahead, Whole, whole}
use Rattle.pb_cread_frame.specs.Frames.{behind_frame, rest_of, shown_of}
use Rattle.pb_cread_frame.specs.Reading.{State, start, start_with, step, is_done}
use Rattle.pb_cread_frame.specs.Rows.{is_line, bare}
use Rattle.pb_cread_frame.specs.Steps.{Arrives}

abbrev pub then_read : Option State → (State → Option State) → Option State
then_read None f = None
then_read (Some s) f = f s

-- the state behind the lines, where each may stand there
abbrev pub read : List (List ℕ) → State → Option State
read [] s = Some s
read (l ∷ ls) s = then_read (step s l) (read ls)

-- these are the first lines, and each keeps its rule
abbrev pub Begins : List (List ℕ) → List Shown → Type 0
Begins [] shown = Unit {0}
Begins (l ∷ ls) [] = ⊥
Begins (l ∷ ls) (s ∷ ss) = (l ≡ s.text) × (s.kept ≡ true) × Begins ls ss

pub record IsRead (lines : List (List ℕ)) (s : State) (program : Whole) (behind : List Shown) : Type 0 where
  pub next : State
  pub reads : read lines s ≡ Some next
  pub arrives : Arrives next program (drop (length lines) behind)

-- the first lines of every program are read, as long as they keep their rules
abbrev pub ReadsFronts : Type 0
ReadsFronts = (lines : List (List ℕ)) (s : State) (q : Rest) → Begins lines (ahead s q) → IsRead lines s (whole s q) (ahead s q)

pub record IsFrontOf (lines : List (List ℕ)) (s t : State) (q : Rest) : Type 0 where
  pub rest : Rest
  pub ahead_is : ahead s rest ≡ map sure lines ++ ahead t q
  pub same : whole s rest ≡ whole t q

-- what was read are the first lines of some program, and what is ahead of the state behind them may follow
abbrev pub AreFrontsThatAreRead : Type 0
AreFrontsThatAreRead = (lines : List (List ℕ)) (s t : State) (q : Rest) → All (λ l. is_line l ≡ true) lines → read lines s ≡ Some t → IsFrontOf lines s t q

-- a line that may not stand there makes the lines no front
abbrev pub RefusesNoFront : Type 0
RefusesNoFront = (lines : List (List ℕ)) (line : List ℕ) (s t : State) (q : Rest) → read lines s ≡ Some t → step t line ≡ None → Begins (lines ++ line ∷ []) (ahead s q) → ⊥

-- a program's text is what is ahead of the start, and then the statements and the end of main
abbrev pub StartsTexts : Type 0
StartsTexts = (p : Program) (prelude : List ℕ) (bodies : List (List ℕ))
    → map (shown_of p) (text_lines p prelude bodies) ≡ ahead start (rest_of p prelude bodies) ++ map (shown_of p) (behind_frame p)

-- lines that are read begin a spelling
abbrev pub AreFronts : Type 0
AreFronts = (name : List ℕ) (lines : List (List ℕ)) (s : State) → All (λ l. is_line l ≡ true) lines → read lines (start_with name) ≡ Some s → IsFront (map bare lines)

-- and with a line that may not stand behind them, they begin none
abbrev pub AreNoFronts : Type 0
AreNoFronts = (name : List ℕ) (lines : List (List ℕ)) (line : List ℕ) (s : State) → All (λ l. is_line l ≡ true) (lines ++ line ∷ []) → read lines (start_with name) ≡ Some s
    → is_done s ≡ false → step s line ≡ None → IsFront (map bare (lines ++ line ∷ [])) → ⊥
