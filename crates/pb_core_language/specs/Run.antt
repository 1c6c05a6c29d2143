-- The sequential run of a flat protocol, under a table of answers. In docs/LANGUAGE.md: 'The order in which things are
-- done'; its actions are told in docs/MACHINE.md.
--
-- With `role W[0..N-1]`, and at N = 2, the body
--     A(int32) from W[0] to W[1];
--     choice K at W[1] { } or { compute L at W[1]; }
-- with the word 7 for rank 0 and the branch 1 for rank 1 as the answers, does
--     (0, Send 1 0 (7 ∷ [])) ∷ (1, Recv 0 0 (7 ∷ [])) ∷ (1, Choose 0 2 1) ∷ (1, Run 1) ∷ []
-- and is over after five steps: one for each statement, and one for each of the two ends of a block. With no answers it
-- sends the word 0 and chooses branch 0.
--
-- w is the setting, r and p are ranks, and n is a number of words.
use Rattle.std.specs.Prelude.{◌≡◌, ℕ, zero, suc, ◌<◌, ◌==◌, Bool, true, false, List, [], ◌∷◌, ◌++◌, length, map, replicate, nat_lt}
use Rattle.pb_world.specs.Actions.{Action, Choose, Run, Send, Recv, Enter, Leave, Collective, of_rank, AnswerTable, answers_of}
use Rattle.pb_world.specs.Family.{each}
use Rattle.pb_world.specs.Sequencer.{answers_after_all, first_or, state_after, emitted}
use Rattle.pb_core_language.specs.Flat.{Block, stop, message, compute, together, choice, looped, again, Branches, takes_part, in_choice, count, branch_at, first_ending}

-- what a run knows besides the protocol: the ranks, how many words a label has, and what collectives do
pub record Setting : Type 0 where
  pub total : ℕ
  pub size : ℕ → ℕ
  pub weight : Collective → ℕ → ℕ  -- with how many words a rank enters
  pub needs : Collective → ℕ → ℕ → Bool  -- whose entry a rank needs to leave
  pub outcome : Collective → ℕ → (ℕ → List ℕ) → List ℕ  -- with what it leaves

-- no more than what a rank needs counts
abbrev pub Depends : Setting → Type 0
Depends w = (joint : Collective) (r : ℕ) (words others : ℕ → List ℕ) → ((p : ℕ) → p < w.total → w.needs joint r p ≡ true → words p ≡ others p) → w.outcome joint r words ≡ w.outcome joint r others

-- in what a block stands
pub data Opener : Type 0 where
  Top : Opener
  Chosen : (at : ℕ) (branches : Branches) → Opener
  Body : (body : Block) → Opener

-- what is still to do in it
pub record Frame : Type 0 where
  pub opener : Opener
  pub rest : Block

-- who takes part in the body of each loop around, the innermost first
abbrev pub Env : Type 0
Env = List (ℕ → Bool)

abbrev pub at_rank : ℕ → Env → List Bool
at_rank r env = map (λ takes. takes r) env

abbrev pub env_over : Opener → Env → Env
env_over Top env = env
env_over (Chosen at branches) env = env
env_over (Body body) env = (λ r. takes_part (false ∷ at_rank r env) r body) ∷ env

abbrev pub env_of : List Frame → Env
env_of [] = []
env_of (frame ∷ frames) = env_over frame.opener (env_of frames)

-- a rank takes part in what a frame stands in
abbrev pub live : ℕ → Opener → Env → Bool
live r Top env = true
live r (Chosen at branches) env = in_choice (at_rank r env) r at branches
live r (Body body) env = takes_part (false ∷ at_rank r env) r body

abbrev pub back_over : Opener → ℕ → List Frame → (ℕ → List Frame) → List Frame
back_over Top between frames go_on = go_on between
back_over (Chosen at branches) between frames go_on = go_on between
back_over (Body body) zero frames go_on = record { opener = Body body; rest = body } ∷ frames
back_over (Body body) (suc between) frames go_on = go_on between

-- what is left inside the open loop with so many between is dropped, and its body begins anew
abbrev pub back : List Frame → ℕ → List Frame
back [] between = []
back (frame ∷ frames) between = back_over frame.opener between frames (back frames)

-- one step, with this branch taken; a block's end that is reached is a step without an action
abbrev pub move : Opener → List Frame → Block → ℕ → List Frame
move opener frames stop taken = frames
move opener frames (message origin from to label rest) taken = record { opener = opener; rest = rest } ∷ frames
move opener frames (compute origin at kernel rest) taken = record { opener = opener; rest = rest } ∷ frames
move opener frames (together origin joint rest) taken = record { opener = opener; rest = rest } ∷ frames
move opener frames (choice origin at kernel branches rest) taken =
    record { opener = Chosen at branches; rest = branch_at taken branches } ∷ record { opener = opener; rest = rest } ∷ frames
move opener frames (looped origin body rest) taken = record { opener = Body body; rest = body } ∷ record { opener = opener; rest = rest } ∷ frames
move opener frames (again between) taken = back_over opener between frames (back frames)

-- what is still to do, the innermost frame first, and the answers that are left
pub record State : Type 0 where
  pub stack : List Frame
  pub left : AnswerTable

-- words with which a rank enters: none, or its answer, or zeros
abbrev pub enter_words : ℕ → (List ℕ → Bool) → List (List ℕ) → List ℕ
enter_words zero fine answers = []
enter_words (suc n) fine answers = first_or answers fine (replicate (suc n) 0)

abbrev pub is_over_at : List Frame → Bool
is_over_at [] = true
is_over_at (frame ∷ frames) = false

module _ (w : Setting) where
  -- a branch that is there, words of the right length
  abbrev pub is_allowed : ℕ → Action → Bool
  is_allowed r (Choose kernel branches branch) = nat_lt branch branches
  is_allowed r (Run kernel) = true
  is_allowed r (Send to label words) = length words == w.size label
  is_allowed r (Recv from label words) = true
  is_allowed r (Enter joint words) = length words == w.weight joint r
  is_allowed r (Leave joint words) = true

  -- the branch that a rank takes, the words that it sends, and those with which it enters
  abbrev pub branch_now : AnswerTable → ℕ → ℕ → Branches → ℕ
  branch_now left at kernel branches = first_or (left at).branches (λ branch. is_allowed at (Choose kernel (count branches) branch)) (first_ending branches)

  abbrev pub words_now : AnswerTable → ℕ → ℕ → ℕ → List ℕ
  words_now left from to label = first_or (left from).words (λ words. is_allowed from (Send to label words)) (replicate (w.size label) 0)

  abbrev pub entered_now : AnswerTable → Collective → ℕ → List ℕ
  entered_now left joint r = enter_words (w.weight joint r) (λ words. is_allowed r (Enter joint words)) (left r).words

  abbrev pub emit_at : Block → AnswerTable → List (ℕ × Action)
  emit_at stop left = []
  emit_at (message origin from to label rest) left = (from, Send to label (words_now left from to label)) ∷ (to, Recv from label (words_now left from to label)) ∷ []
  emit_at (compute origin at kernel rest) left = (at, Run kernel) ∷ []
  emit_at (together origin joint rest) left = each w.total (λ r. Enter joint (entered_now left joint r)) ++ each w.total (λ r. Leave joint (w.outcome joint r (entered_now left joint)))
  emit_at (choice origin at kernel branches rest) left = (at, Choose kernel (count branches) (branch_now left at kernel branches)) ∷ []
  emit_at (looped origin body rest) left = []
  emit_at (again between) left = []

  abbrev pub taken_at : Block → AnswerTable → ℕ
  taken_at (choice origin at kernel branches rest) left = branch_now left at kernel branches
  taken_at stop left = 0
  taken_at (message origin from to label rest) left = 0
  taken_at (compute origin at kernel rest) left = 0
  taken_at (together origin joint rest) left = 0
  taken_at (looped origin body rest) left = 0
  taken_at (again between) left = 0

  abbrev pub emit_of : List Frame → AnswerTable → List (ℕ × Action)
  emit_of [] left = []
  emit_of (frame ∷ frames) left = emit_at frame.rest left

  abbrev pub move_of : List Frame → AnswerTable → List Frame
  move_of [] left = []
  move_of (frame ∷ frames) left = move frame.opener frames frame.rest (taken_at frame.rest left)

  abbrev pub emit : State → List (ℕ × Action)
  emit state = emit_of state.stack state.left

  abbrev pub next : State → State
  next state = record { stack = move_of state.stack state.left; left = λ r. answers_after_all (of_rank r (emit state)) (state.left r) }

  -- The start of a protocol under a table of answers, the actions of the first so many steps, and whether no statement is
  -- left then. A step without an action goes into a loop, back to one, or past the end of a block.
  abbrev pub first_state : Block → AnswerTable → State
  first_state protocol answers = record { stack = record { opener = Top; rest = protocol } ∷ []; left = answers }

  abbrev pub seq : Block → AnswerTable → ℕ → List (ℕ × Action)
  seq protocol answers steps = emitted emit next steps (first_state protocol answers)

  abbrev pub is_over : Block → AnswerTable → ℕ → Bool
  is_over protocol answers steps = is_over_at (state_after emit next steps (first_state protocol answers)).stack

  -- a run with these actions is whole: the sequential run under its answers ends, and each rank did its part of that
  abbrev pub IsWhole : Block → List (ℕ × Action) → Type 0
  IsWhole protocol actions =
      (steps : ℕ) × (is_over protocol (answers_of actions) steps ≡ true) × ((r : ℕ) → of_rank r actions ≡ of_rank r (seq protocol (answers_of actions) steps))
