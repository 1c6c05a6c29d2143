-- A table of the names of columns.
use Rattle.std.specs.Prelude.{◌≡◌, ◌<◌, Bool, false, ◌||◌, List, [], ◌∷◌, length}
use Rattle.pb_strips_syntax.specs.declared.tree.StripRole.{StripRole}
use Rattle.pb_strips_syntax.specs.Columns.{Name}
use Rattle.pb_strips_faults.specs.Faults.{same, is_column_of_some}

abbrev pub is_among : List Name → Name → Bool
is_among [] x = false
is_among (y ∷ ys) x = same y x || is_among ys x

-- two tests answer the same for each name of 1 to 64 bytes, and no other name is spelled
pub record AnswerAlike (test other : Name → Bool) : Type 0 where
  pub alike : (x : Name) → 0 < length x → length x < 65 → test x ≡ other x

-- the table has what it had and, beside that, the names that the test knows
abbrev pub Adds : List Name → (Name → Bool) → List Name → Type 0
Adds old test new = AnswerAlike (is_among new) (λ x. is_among old x || test x)

-- the names of the table are those of the columns
abbrev pub IsTableOf : List StripRole → List Name → Type 0
IsTableOf roles names = AnswerAlike (is_among names) (is_column_of_some roles)
