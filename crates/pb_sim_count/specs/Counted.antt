-- How many actions of each kind were done, and how many words their sends and entries had.
use Rattle.std.specs.Prelude.{ℕ, List, length, map}
use Rattle.std.specs.List.{sum}
use Rattle.pb_world.specs.Actions.{Action, Choose, Run, Send, Recv, Enter, Leave}
use Rattle.pb_sim.specs.declared.counts.Counts.{Counts}

-- ---- one action

abbrev pub sends : Action → ℕ
sends (Send to label words) = 1
sends other = 0

abbrev pub receives : Action → ℕ
receives (Recv from label words) = 1
receives other = 0

abbrev pub runs : Action → ℕ
runs (Run kernel) = 1
runs other = 0

abbrev pub chooses : Action → ℕ
chooses (Choose kernel branches branch) = 1
chooses other = 0

abbrev pub enters : Action → ℕ
enters (Enter joint words) = 1
enters other = 0

abbrev pub leaves : Action → ℕ
leaves (Leave joint words) = 1
leaves other = 0

-- what its kernels made for a message or a collective
abbrev pub words : Action → ℕ
words (Send to label made) = length made
words (Enter joint made) = length made
words other = 0

-- ---- all actions of a run

abbrev pub total : (Action → ℕ) → List (ℕ × Action) → ℕ
total count w = sum (map (λ step. count step.1) w)

abbrev pub counts_of : List (ℕ × Action) → Counts
counts_of w = record {
  sends = total sends w;
  receives = total receives w;
  runs = total runs w;
  chooses = total chooses w;
  enters = total enters w;
  leaves = total leaves w;
  words = total words w;
}
