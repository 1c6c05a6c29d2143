-- Two ranks. Rank 0 chooses to go on or to stop, and tells rank 1 by a message; going on they combine a word each.
use Rattle.std.specs.Prelude.{ℕ, zero, suc, ◌+◌, ◌==◌, cond, Bool, true, false, List, [], ◌∷◌, ◌++◌, length, Option, Some, None, nat_lt}
use Rattle.pb_world.specs.Actions.{Action, Choose, Run, Send, Recv, Enter, Leave, Collective, Allreduce, Sum, Chooses, Sends, Receives, Enters, Leaves, of_rank, Answers, AnswerTable}
use Rattle.pb_world.specs.Machine.{Next, Silent, Does, Probe, Ended, Undefined, Machine}
use Rattle.pb_world.specs.Family.{Family, each}
use Rattle.pb_world.specs.Sequencer.{answers_after_all, first_or, emitted, state_after}

-- a rank's places: those of rank 0, and those of rank 1
pub data Place : Type 0 where
  Top0 Go0 Stop0 In0 Out0 Back0 Top1 Go1 Stop1 In1 Out1 Back1 Fin Wrong : Place

abbrev pub combine : Collective
combine = Allreduce 9 Sum

abbrev pub next_at : Place → Next
next_at Top0 = Does (Chooses 0 2)
next_at Go0 = Does (Sends 1 7)
next_at Stop0 = Does (Sends 1 8)
next_at In0 = Does (Enters combine)
next_at Out0 = Does (Leaves combine)
next_at Back0 = Silent
next_at Top1 = Probe 0
next_at Go1 = Does (Receives 0 7)
next_at Stop1 = Does (Receives 0 8)
next_at In1 = Does (Enters combine)
next_at Out1 = Does (Leaves combine)
next_at Back1 = Silent
next_at Fin = Ended
next_at Wrong = Undefined

abbrev pub branch_at : Action → Place
branch_at (Choose k n b) = cond (b == 0) Go0 Stop0
branch_at (Run k) = Wrong
branch_at (Send q l ws) = Wrong
branch_at (Recv q l ws) = Wrong
branch_at (Enter j ws) = Wrong
branch_at (Leave j ws) = Wrong

abbrev pub act_at : Place → Action → Place
act_at Top0 a = branch_at a
act_at Go0 a = In0
act_at Stop0 a = Fin
act_at In0 a = Out0
act_at Out0 a = Back0
act_at Go1 a = In1
act_at Stop1 a = Fin
act_at In1 a = Out1
act_at Out1 a = Back1
act_at Back0 a = Wrong
act_at Top1 a = Wrong
act_at Back1 a = Wrong
act_at Fin a = Wrong
act_at Wrong a = Wrong

abbrev pub quiet_at : Place → Place
quiet_at Back0 = Top0
quiet_at Back1 = Top1
quiet_at x = Wrong

abbrev pub read_at : ℕ → Option Place
read_at l = cond (l == 7) (Some Go1) (cond (l == 8) (Some Stop1) None)

-- the sequential run: where it is, and the answers that are left
pub data Point : Type 0 where
  Choosing Going Stopping Combining Over : Point

pub record State : Type 0 where
  pub point : Point
  pub left : ℕ → Answers

-- one word with label 7, none with label 8, one in the collective
abbrev pub is_allowed : ℕ → Action → Bool
is_allowed r (Choose k n b) = nat_lt b 2
is_allowed r (Run k) = true
is_allowed r (Send q l ws) = cond (l == 7) (length ws == 1) (length ws == 0)
is_allowed r (Recv q l ws) = true
is_allowed r (Enter j ws) = length ws == 1
is_allowed r (Leave j ws) = true

abbrev pub first_word : List ℕ → ℕ
first_word [] = 0
first_word (x ∷ xs) = x

abbrev pub added : Collective → ℕ → (ℕ → List ℕ) → List ℕ
added j r words = (first_word (words 0) + first_word (words 1)) ∷ []

abbrev pub branch_now : State → ℕ
branch_now q = first_or (q.left 0).branches (λ b. is_allowed 0 (Choose 0 2 b)) 1

abbrev pub sent_now : State → ℕ → List ℕ → List ℕ
sent_now q l d = first_or (q.left 0).words (λ ws. is_allowed 0 (Send 1 l ws)) d

abbrev pub entered_now : State → ℕ → List ℕ
entered_now q r = first_or (q.left r).words (λ ws. is_allowed r (Enter combine ws)) (0 ∷ [])

abbrev pub emit_at : Point → State → List (ℕ × Action)
emit_at Choosing q = (0, Choose 0 2 (branch_now q)) ∷ []
emit_at Going q = (0, Send 1 7 (sent_now q 7 (0 ∷ []))) ∷ (1, Recv 0 7 (sent_now q 7 (0 ∷ []))) ∷ []
emit_at Stopping q = (0, Send 1 8 (sent_now q 8 [])) ∷ (1, Recv 0 8 (sent_now q 8 [])) ∷ []
emit_at Combining q = each 2 (λ p. Enter combine (entered_now q p)) ++ each 2 (λ p. Leave combine (added combine p (entered_now q)))
emit_at Over q = []

abbrev pub emit : State → List (ℕ × Action)
emit q = emit_at q.point q

abbrev pub point_after : Point → State → Point
point_after Choosing q = cond (branch_now q == 0) Going Stopping
point_after Going q = Combining
point_after Stopping q = Over
point_after Combining q = Choosing
point_after Over q = Over

abbrev pub next : State → State
next q = record { point = point_after q.point q; left = λ r. answers_after_all (of_rank r (emit q)) (q.left r) }

abbrev pub first_state : AnswerTable → State
first_state A = record { point = Choosing; left = A }

abbrev pub is_end : Point → Bool
is_end Over = true
is_end Choosing = false
is_end Going = false
is_end Stopping = false
is_end Combining = false

abbrev pub is_over : State → Bool
is_over q = is_end q.point

abbrev pub start_at : ℕ → Place
start_at zero = Top0
start_at (suc r) = Top1

abbrev pub machine : Machine Place
machine = record { next = next_at; quiet = quiet_at; read = λ x l. read_at l; act = act_at }

abbrev pub family : Family Place
family = record {
  total = 2;
  machine = machine;
  start = start_at;
  allowed = is_allowed;
  needs = λ j r p. true;
  outcome = added;
  run = λ A m. emitted emit next m (first_state A);
  over = λ A m. is_over (state_after emit next m (first_state A));
}
