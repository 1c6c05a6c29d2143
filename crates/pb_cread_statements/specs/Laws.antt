-- What reading line by line says of the lines that were read.
use Rattle.std.specs.Prelude.{◌≡◌, ℕ, ◌+◌, List, [], ◌∷◌, ◌++◌, length, take, Some, None}
use Rattle.pb_local.specs.Tree.{Code, Codes, codes_of, Program, size_all}
use Rattle.pb_ctree.specs.Lines.{Item}
use Rattle.pb_cread_statements.specs.Marks.{marks_all, begun_in}
use Rattle.pb_cread_statements.specs.Reading.{State, Place, nothing_read, read, goes_on, finished, open_braces}
use Rattle.pb_cread_statements.specs.Fronts.{Begins, Are, main_lines, IsMainFront, opened_in, closed_in}

abbrev pub place_of : ℕ → Item → Place
place_of depth item = record { depth = depth; item = item }

-- the lines of any statements are read, and these statements are what was read
abbrev pub ReadsStatements : Type 0
ReadsStatements = (p : Program) (c : Codes) (items : List Place) → Are items (main_lines p c)
    → (s : State) × (read p items nothing_read ≡ Some s) × (done : List Code) × (finished s ≡ Some done) × (codes_of done ≡ c) × (s.begun ≡ size_all c)

-- lines that begin the lines of some statements are read, and the statements that begin in them are counted
abbrev pub ReadsFronts : Type 0
ReadsFronts = (p : Program) (c : Codes) (items : List Place) → Begins items (main_lines p c)
    → (s : State) × (read p items nothing_read ≡ Some s) × (s.begun ≡ begun_in (take (length items) (marks_all p c)))

-- lines that were read are a front
abbrev pub IsFrontThatIsRead : Type 0
IsFrontThatIsRead = (p : Program) (items : List Place) (s : State) → read p items nothing_read ≡ Some s → IsMainFront p items

-- and where nothing is open, they are the lines of what was read
abbrev pub AreLinesThatAreRead : Type 0
AreLinesThatAreRead = (p : Program) (items : List Place) (s : State) (done : List Code) → read p items nothing_read ≡ Some s → finished s ≡ Some done → Are items (main_lines p (codes_of done))

-- a line that doesn't go on makes the lines no front
abbrev pub RefusesNoFront : Type 0
RefusesNoFront = (p : Program) (items : List Place) (s : State) (depth : ℕ) (item : Item) → read p items nothing_read ≡ Some s → goes_on p s depth item ≡ None → IsMainFront p (items ++ place_of depth item ∷ []) → ⊥

-- where something is open, the lines are not all lines of any statements
abbrev pub UnfinishedIsNoWhole : Type 0
UnfinishedIsNoWhole = (p : Program) (items : List Place) (s : State) (c : Codes) → read p items nothing_read ≡ Some s → finished s ≡ None → Are items (main_lines p c) → ⊥

-- the braces that the lines open and don't close, and main's own
abbrev pub CountsBraces : Type 0
CountsBraces = (p : Program) (items : List Place) (s : State) → read p items nothing_read ≡ Some s → open_braces s + closed_in items ≡ 1 + opened_in items

-- as many marks as lines, and as many of them say 'begins' as there are statements
abbrev pub MarksStatements : Type 0
MarksStatements = (p : Program) (c : Codes) → (length (marks_all p c) ≡ length (main_lines p c)) × (begun_in (marks_all p c) ≡ size_all c)
