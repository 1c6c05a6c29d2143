-- One line of a program's text is one step, and one step is one line of some program's text.
use Rattle.std.specs.Prelude.{◌≡◌, ℕ, true, List, [], ◌∷◌, Option, Some}
use Rattle.pb_cread_frame.specs.Ahead.{Shown, sure, Rest, ahead, Whole, whole}
use Rattle.pb_cread_frame.specs.Reading.{State, step}
use Rattle.pb_cread_frame.specs.Rows.{is_line}

-- behind the state stand these lines, of this program and its bodies
pub record Arrives (s : State) (program : Whole) (behind : List Shown) : Type 0 where
  pub rest : Rest
  pub lines : ahead s rest ≡ behind
  pub same : whole s rest ≡ program

pub record Follows (steps : List ℕ → Option State) (program : Whole) (line : List ℕ) (behind : List Shown) : Type 0 where
  pub next : State
  pub goes : steps line ≡ Some next
  pub arrives : Arrives next program behind

-- a first line that keeps its rule is gone along, to where the others stand
abbrev pub GoesAlong : (List ℕ → Option State) → Whole → List Shown → Type 0
GoesAlong steps program [] = Unit {0}
GoesAlong steps program (l ∷ ls) = l.kept ≡ true → Follows steps program l.text ls

-- the line, which keeps its rule, and then what is ahead of the next state
pub record Comes (lines : Rest → List Shown) (program : Rest → Whole) (line : List ℕ) (next : State) (later : Rest) : Type 0 where
  pub rest : Rest
  pub first : lines rest ≡ sure line ∷ ahead next later
  pub same : program rest ≡ whole next later

-- each program is gone along
abbrev pub FollowsAll : Type 0
FollowsAll = (s : State) (q : Rest) → GoesAlong (step s) (whole s q) (ahead s q)

-- each step is a line of some program
abbrev pub IsSound : Type 0
IsSound = (s t : State) (line : List ℕ) (q : Rest) → is_line line ≡ true → step s line ≡ Some t → Comes (ahead s) (whole s) line t q
