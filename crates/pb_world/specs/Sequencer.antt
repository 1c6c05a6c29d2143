-- A sequential run that has a state, in which the answers that are left lie.
use Rattle.std.specs.Prelude.{ℕ, zero, suc, cond, Bool, List, [], ◌∷◌, ◌++◌}
use Rattle.pb_world.specs.Actions.{Action, Choose, Run, Send, Recv, Enter, Leave, Answers}

abbrev pub behind_first : {A : Type 0} → List A → List A
behind_first [] = []
behind_first (x ∷ xs) = xs

-- the answers that an action leaves: an entry is used up, also where it didn't count
abbrev pub answers_after : Action → Answers → Answers
answers_after (Choose k n b) left = record { branches = behind_first left.branches; words = left.words }
answers_after (Send q l ws) left = record { branches = left.branches; words = behind_first left.words }
answers_after (Enter j []) left = left
answers_after (Enter j (x ∷ ws)) left = record { branches = left.branches; words = behind_first left.words }
answers_after (Run k) left = left
answers_after (Recv p l ws) left = left
answers_after (Leave j ws) left = left

abbrev pub answers_after_all : List Action → Answers → Answers
answers_after_all [] left = left
answers_after_all (a ∷ s) left = answers_after_all s (answers_after a left)

-- the first answer where it counts, else the default
abbrev pub first_or : {A : Type 0} → List A → (A → Bool) → A → A
first_or [] fine default = default
first_or (x ∷ xs) fine default = cond (fine x) x default

module _ {Q : Type 0} (emit : Q → List (ℕ × Action)) (next : Q → Q) where
  -- the state after so many steps
  abbrev pub state_after : ℕ → Q → Q
  state_after zero q = q
  state_after (suc m) q = state_after m (next q)

  -- and what they do
  abbrev pub emitted : ℕ → Q → List (ℕ × Action)
  emitted zero q = []
  emitted (suc m) q = emit q ++ emitted m (next q)
