-- How far a text is read.
use Rattle.std.specs.Prelude.{◌≡◌, ℕ, ◌≤◌, ◌<◌, Bool, true, false, All, List, [], ◌∷◌, ◌++◌, length, map, Some, codes}
use Rattle.pb_local.specs.Pieces as P
use Rattle.pb_local.specs.Tree.{Code, Codes, nothing, Program}
use Rattle.pb_local.specs.WellMade.{IsWellMade}
use Rattle.pb_ctree.specs.Functions.{functions_of}
use Rattle.pb_ctree.specs.Lines as L
use Rattle.pb_ctree.specs.Texts.{Starts, line_bytes, text}
use Rattle.pb_cread_frame.specs.Laws as K
use Rattle.pb_cread_frame.specs.Reading as F
use Rattle.pb_cread_frame.specs.Reading.{same_line}
use Rattle.pb_cread_frame.specs.Rows.{is_line, bare}
use Rattle.pb_cread_lines.specs.Fits.{FitsNumber, Fits}
use Rattle.pb_cread_lines.specs.Reading.{IsLine}
use Rattle.pb_cread_statements.specs.Fronts.{Begins, main_lines}
use Rattle.pb_cread_statements.specs.Reading as M
use Rattle.pb_cread.specs.declared.statements.Step.{Step}
use Rattle.pb_cread.specs.declared.statements.Step.TheVariants.{On, Stops, Deepens, Exceeds}
use Rattle.pb_text.specs.declared.place.Place.{Place}
use Rattle.pb_text.specs.Places.{one_more}
use Rattle.pb_cread.specs.declared.fault.TextFault.{TextFault}
use Rattle.pb_cread.specs.Faults.{IsFault}
use Rattle.pb_cread.specs.Limits.{IsWithin, KeepsLimits}
use Rattle.pb_cread.specs.Rows as W
use Rattle.pb_cread.specs.Rows.{line_number}

-- these lines were taken, and the line of this number comes next
pub record Taken (text : List ℕ) (lines : List (List ℕ)) (rest : List ℕ) (line : ℕ) : Type 0 where
  pub begins : W.Begins text lines rest
  pub number : line ≡ line_number (length lines)

-- ---- the lines before the statements

pub record InFrame (text rest : List ℕ) (line : ℕ) (s : F.State) : Type 0 where
  pub lines : List (List ℕ)
  pub taken : Taken text lines rest line
  pub name : List ℕ
  pub reads : K.read lines (F.start_with name) ≡ Some s

-- a program of these tables, and these statements
abbrev pub with_body : Program → Codes → Program
with_body p c = record p { body = c }

-- the program whose head was read
abbrev pub headed : F.Read → Program
headed r = record { protocol = r.protocol; range = r.range; roles = r.roles; labels = r.labels; kernels = r.kernels; body = nothing }

-- all lines before the statements were read
pub record Framed (frame : List (List ℕ)) (r : F.Read) : Type 0 where
  pub each : All (λ l. is_line l ≡ true) frame
  pub name : List ℕ
  pub state : F.State
  pub reads : K.read frame (F.start_with name) ≡ Some state
  pub done : F.is_done state ≡ true
  pub read : state.read ≡ r

-- ---- the statements

abbrev pub finalize : List ℕ
finalize = P.line 1 (codes "MPI_Finalize();")

-- each line is spelled as its item
abbrev pub Shows : Program → List (List ℕ) → List M.Place → Type 0
Shows p [] [] = Unit {0}
Shows p [] (i ∷ is) = ⊥
Shows p (l ∷ ls) [] = ⊥
Shows p (l ∷ ls) (i ∷ is) = (bare l ≡ line_bytes p (L.line i.depth i.item true)) × Shows p ls is

-- these lines of statements were read
pub record Stated (p : Program) (lines : List (List ℕ)) (s : M.State) : Type 0 where
  pub items : List M.Place
  pub shows : Shows p lines items
  pub reads : M.read p items M.nothing_read ≡ Some s
  -- of all statements whose text begins so, the lines begin so
  pub only : (c : Codes) → Starts p (map bare lines) (main_lines p c) → Begins items (main_lines p c)
  pub inner : All (λ l. same_line finalize l ≡ false) lines
  pub deep : M.open_braces s ≤ 256
  pub many : s.begun ≤ 50000
  pub within : (c : Codes) → Begins items (main_lines p c) → IsWithin (with_body p c) (length items)

pub record InMain (text rest : List ℕ) (line : ℕ) (r : F.Read) (p : Program) (s : M.State) : Type 0 where
  pub is : headed r ≡ p
  pub frame : List (List ℕ)
  pub framed : Framed frame r
  pub lines : List (List ℕ)
  pub taken : Taken text (frame ++ lines) rest line
  pub stated : Stated p lines s

-- the line is one that goes on, and no other line with its text does
pub record GoesBy (p : Program) (s : M.State) (line : List ℕ) (t : M.State) : Type 0 where
  pub depth : ℕ
  pub item : L.Item
  pub is : IsLine p line depth item
  pub goes : M.goes_on p s depth item ≡ Some t
  pub only : (d : ℕ) (i : L.Item) (u : M.State) → FitsNumber d → Fits p i → IsLine p line d i → M.goes_on p s d i ≡ Some u → (d ≡ depth) × (i ≡ item)

-- no line with this text goes on
abbrev pub NoneGoes : Program → M.State → List ℕ → Type 0
NoneGoes p s line = (d : ℕ) (i : L.Item) (u : M.State) → FitsNumber d → Fits p i → IsLine p line d i → M.goes_on p s d i ≡ Some u → ⊥

-- whether a line of statements goes on
abbrev pub Judged : Bool → Program → M.State → List ℕ → M.State → Type 0
Judged true p s line t = GoesBy p s line t
Judged false p s line t = NoneGoes p s line

-- what a line of statements does
abbrev pub Does : Step → Program → M.State → List ℕ → M.State → Type 0
Does On p s line t = GoesBy p s line t × (M.open_braces t ≤ 256) × (t.begun ≤ 50000)
Does Stops p s line t = NoneGoes p s line
Does Deepens p s line t = GoesBy p s line t × (256 < M.open_braces t)
Does Exceeds p s line t = GoesBy p s line t × (M.open_braces t ≤ 256) × (50000 < t.begun)

-- the line that comes next, at this place, leads on
abbrev pub GoesFrom : Program → M.State → List ℕ → Place → M.State → Type 0
GoesFrom p s line place t = (text rest more : List ℕ) (n : ℕ) (r : F.Read) → InMain text rest n r p s → W.IsFirst rest line more → same_line finalize line ≡ false → place.line ≡ n → place.col ≡ 1 → InMain text more (one_more n) r p t

-- or has this fault
abbrev pub FailsFrom : Program → M.State → List ℕ → Place → TextFault → Type 0
FailsFrom p s line place fault = (text rest more : List ℕ) (n : ℕ) (r : F.Read) → InMain text rest n r p s → W.IsFirst rest line more → same_line finalize line ≡ false → place.line ≡ n → place.col ≡ 1 → IsFault text fault

-- the line behind the statements was taken, which stands at this place
pub record IsBehind (text rest : List ℕ) (line : ℕ) (r : F.Read) (p : Program) (s : M.State) (place : Place) : Type 0 where
  pub from : List ℕ
  pub main : InMain text from place.line r p s
  pub last : List ℕ
  pub first : W.IsFirst from last rest
  pub is : same_line finalize last ≡ true
  pub number : line ≡ one_more place.line
  pub col : place.col ≡ 1

-- ---- the end

-- the lines of main behind that one
abbrev pub return_text : List ℕ
return_text = P.line 1 (codes "return 0;")

abbrev pub brace_text : List ℕ
brace_text = P.line 0 (codes "}")

abbrev pub last_texts : List (List ℕ)
last_texts = return_text ∷ brace_text ∷ []

-- all statements were read, the line behind them, and then these; others are left
pub record InEnd (text rest : List ℕ) (line : ℕ) (r : F.Read) (p : Program) (done : List Code) (last left : List (List ℕ)) : Type 0 where
  pub is : headed r ≡ p
  pub frame : List (List ℕ)
  pub framed : Framed frame r
  pub lines : List (List ℕ)
  pub taken : Taken text (frame ++ (lines ++ finalize ∷ last)) rest line
  pub state : M.State
  pub stated : Stated p lines state
  pub finished : M.finished state ≡ Some done
  pub parts : last ++ left ≡ last_texts

-- all of the text was read: it is the text of this program with the bodies that were read
pub record IsWhole (bytes : List ℕ) (r : F.Read) (p : Program) : Type 0 where
  pub made : IsWellMade p
  pub text : bytes ≡ text p r.prelude r.bodies
  pub many : length r.bodies ≡ length (functions_of p)
  pub limits : KeepsLimits p
