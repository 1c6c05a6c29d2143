-- All ranks of a printed text at one N, beside a sequential run that is given from outside.
use Rattle.std.specs.Prelude.{ℕ, ◌*◌, ◌==◌, ℤ, Bool, true, List, length, nat_lt}
use Rattle.pb_world.specs.Actions.{Action, Choose, Run, Send, Recv, Enter, Leave, AnswerTable}
use Rattle.pb_world.specs.Machine.{Machine}
use Rattle.pb_world.specs.Counted.{Counted, counted, counted_start}
use Rattle.pb_world.specs.Family.{Family}
use Rattle.pb_local.specs.Ranks.{total}
use Rattle.pb_local.specs.Tree.{size_all, Program}
use Rattle.pb_local.specs.Collectives.{words_of, weight, needs, outcome}
use Rattle.pb_local.specs.Machine.{Rank, machine, start}

-- a sequential run: its actions after so many steps, and whether it is over by then
pub record Sequence : Type 0 where
  pub run : AnswerTable → ℕ → List (ℕ × Action)
  pub over : AnswerTable → ℕ → Bool

-- four silent steps for each statement
abbrev pub most_silent : Program → ℕ
most_silent p = 4 * size_all p.body

-- a branch that is there, words of the right length
abbrev pub is_allowed : Program → ℤ → ℕ → Action → Bool
is_allowed p n r (Choose kernel branches branch) = nat_lt branch branches
is_allowed p n r (Run kernel) = true
is_allowed p n r (Send to label words) = length words == words_of p n label
is_allowed p n r (Recv from label words) = true
is_allowed p n r (Enter joint words) = length words == weight p n joint r
is_allowed p n r (Leave joint words) = true

-- The machine of a rank that is lost where it has made that many silent steps since its last action or its start, and would
-- make another. A rank that is undefined is so whatever the number of its steps
abbrev pub text_machine : Program → ℤ → Machine (Counted Rank)
text_machine p n = counted (most_silent p) (machine p n)

abbrev pub text_start : Program → ℤ → ℕ → Counted Rank
text_start p n r = counted_start (start p n r)

-- The family of a program at N = n. Its world is what the text does on all ranks
abbrev pub family : Program → ℤ → Sequence → Family (Counted Rank)
family p n sequence = record {
  total = total p.roles n;
  machine = text_machine p n;
  start = text_start p n;
  allowed = is_allowed p n;
  needs = needs;
  outcome = outcome p n;
  run = sequence.run;
  over = sequence.over;
}
