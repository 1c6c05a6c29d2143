-- What the run does is met in the lists of the ranks.
use Rattle.std.specs.Prelude.{◌≡◌, ◌≢◌, ℕ, ◌==◌, List, [], ◌∷◌, length, replicate, nat_lt, Option, Some, None, Result, Ok, Err}
use Rattle.pb_text.specs.declared.action.Action.{Action}
use Rattle.pb_text.specs.declared.action.Action.TheVariants as E
use Rattle.pb_world.specs.Sequencer.{first_or}
use Rattle.pb_judge_follow.specs.Follow.{Left, Fits, AllFit, all_passed, Misfits, answers_left}
use Rattle.pb_judge_steps.specs.declared.meeting.Difference.{Difference}

-- a rank with these entries left does this: its first entry says so or none is there, or it says something else
abbrev pub Told : List (ℕ × Action) → Action → Option ℕ → Type 0
Told entries action None = Fits entries action
Told entries action (Some line) = (other : Action) × (others : List (ℕ × Action)) × (entries ≡ (line, other) ∷ others) × (action ≢ other)

-- these actions fit and are passed, or one of them doesn't fit
abbrev pub Met : List Action → Left → Option Difference → Left → Type 0
Met g old None new = AllFit g old × (new ≡ all_passed g old)
Met g old (Some d) new = Misfits g old d.rank d.line

-- the words that a rank sends, and the branch that it takes, with its first answer or without
abbrev pub words_sent : Left → ℕ → ℕ → List ℕ
words_sent left from size = first_or (answers_left left from).words (λ words. length words == size) (replicate size 0)

abbrev pub branch_taken : Left → ℕ → ℕ → ℕ → ℕ
branch_taken left at count otherwise = first_or (answers_left left at).branches (λ branch. nat_lt branch count) otherwise

-- this branch is taken, or the action doesn't fit
abbrev pub Chosen : ℕ → ℕ → ℕ → Left → Result ℕ Difference → Left → Type 0
Chosen at kernel branch old (Ok taken) new = (taken ≡ branch) × AllFit (E.Choose at kernel branch ∷ []) old × (new ≡ all_passed (E.Choose at kernel branch ∷ []) old)
Chosen at kernel branch old (Err d) new = Misfits (E.Choose at kernel branch ∷ []) old d.rank d.line
