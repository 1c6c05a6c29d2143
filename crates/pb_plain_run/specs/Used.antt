-- Tables of answers, given as lists, and what is used of them.
use Rattle.std.specs.Prelude.{◌≡◌, ℕ, zero, suc, ◌==◌, cond, List, [], ◌∷◌, ◌++◌}
use Rattle.pb_world.specs.Actions.{Action, Answers, AnswerTable, of_rank}
use Rattle.pb_world.specs.Sequencer.{behind_first, answers_after_all}

-- the answers of the ranks from rank 0 on; a rank behind the list has none
abbrev pub table : List Answers → AnswerTable
table [] r = record { branches = []; words = [] }
table (a ∷ list) zero = a
table (a ∷ list) (suc r) = table list r

-- with the first branch of rank p used up, or its first words
abbrev pub branch_used : ℕ → AnswerTable → AnswerTable
branch_used p A r = cond (p == r) (record { branches = behind_first (A r).branches; words = (A r).words }) (A r)

abbrev pub words_used : ℕ → AnswerTable → AnswerTable
words_used p A r = cond (p == r) (record { branches = (A r).branches; words = behind_first (A r).words }) (A r)

-- what an entry with so many words uses up of rank p
abbrev pub entry_used : ℕ → ℕ → AnswerTable → AnswerTable
entry_used zero p A = A
entry_used (suc n) p A = words_used p A

-- what these actions leave of a table
abbrev pub left_after : List (ℕ × Action) → AnswerTable → AnswerTable
left_after s A r = answers_after_all (of_rank r s) (A r)

-- these actions are added to a list, and their answers used up
pub record Adds (s : List (ℕ × Action)) (old new : List (ℕ × Action)) (before after : AnswerTable) : Type 0 where
  pub actions : new ≡ old ++ s
  pub left : after ≡ left_after s before
