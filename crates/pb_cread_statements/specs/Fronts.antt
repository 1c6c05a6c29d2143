-- Which lines begin the statements of a program, and are all of them.
use Rattle.std.specs.Prelude.{◌≡◌, ℕ, true, List, [], ◌∷◌}
use Rattle.pb_local.specs.Tree.{Codes, Program}
use Rattle.pb_local.specs.WellMade.{outermost}
use Rattle.pb_ctree.specs.Lines.{Line}
use Rattle.pb_ctree.specs.Spelling.{spelled_all}
use Rattle.pb_cread_statements.specs.Marks.{counted, opens, closes}
use Rattle.pb_cread_statements.specs.Reading.{Place}

-- these are the first lines, and each keeps its rule
abbrev pub Begins : List Place → List Line → Type 0
Begins [] ls = Unit {0}
Begins (i ∷ is) [] = ⊥
Begins (i ∷ is) (l ∷ ls) = (i.depth ≡ l.depth) × (i.item ≡ l.item) × (l.kept ≡ true) × Begins is ls

-- these are the lines, and each keeps its rule
abbrev pub Are : List Place → List Line → Type 0
Are [] [] = Unit {0}
Are [] (l ∷ ls) = ⊥
Are (i ∷ is) [] = ⊥
Are (i ∷ is) (l ∷ ls) = (i.depth ≡ l.depth) × (i.item ≡ l.item) × (l.kept ≡ true) × Are is ls

-- the lines of main's statements
abbrev pub main_lines : Program → Codes → List Line
main_lines p c = spelled_all p 1 outermost c

-- some statements begin so
abbrev pub IsMainFront : Program → List Place → Type 0
IsMainFront p items = (c : Codes) × Begins items (main_lines p c)

-- how many lines open a brace, and how many close one
abbrev pub opened_in : List Place → ℕ
opened_in [] = 0
opened_in (i ∷ is) = counted (opens i.item) (opened_in is)

abbrev pub closed_in : List Place → ℕ
closed_in [] = 0
closed_in (i ∷ is) = counted (closes i.item) (closed_in is)
