-- The actions of a text's ranks, and what a line of a log may tell.
--
-- p is the text's program, n is N, and w is what was done.
use Rattle.std.specs.Prelude.{ℕ, ◌<◌, ◌^◌, ℤ, List}
use Rattle.std.specs.List.{AllByRecursion}
use Rattle.pb_world.specs.Actions.{Action, Choose, Run, Send, Recv, Enter, Leave}
use Rattle.pb_world.specs.Counted.{Counted}
use Rattle.pb_world.specs.Log.{log_of}
use Rattle.pb_world.specs.World.{World, Reached}
use Rattle.pb_local.specs.Family.{Sequence, family}
use Rattle.pb_local.specs.Machine as M
use Rattle.pb_local.specs.Ranks.{total}
use Rattle.pb_local.specs.Tree.{Program}
use Rattle.pb_local.specs.WellMade.{IsWellMade}
use Rattle.pb_judge_log.specs.Entries.{IsTold, rows_of}

abbrev pub AreWords : List ℕ → Type 0
AreWords words = AllByRecursion (λ word. word < 2 ^ 32) words

-- the branch or the words that the rank's own kernels gave fit 32 bits
abbrev pub IsAnsweredSmall : Action → Type 0
IsAnsweredSmall (Choose kernel branches branch) = branch < 2 ^ 32
IsAnsweredSmall (Run kernel) = Unit {0}
IsAnsweredSmall (Send to label words) = AreWords words
IsAnsweredSmall (Recv from label words) = Unit {0}
IsAnsweredSmall (Enter collective words) = AreWords words
IsAnsweredSmall (Leave collective words) = Unit {0}

abbrev pub AreAnsweredSmall : List (ℕ × Action) → Type 0
AreAnsweredSmall w = AllByRecursion (λ step. IsAnsweredSmall step.1) w

abbrev pub RunsAreTold : Type 0
RunsAreTold =
    (p : Program) (n : ℤ) (sequence : Sequence) (w : List (ℕ × Action)) (W : World (Counted M.Rank)) → IsWellMade p → Reached (family p n sequence) w W → AreAnsweredSmall w →
    AllByRecursion (IsTold (rows_of p.labels p.kernels) (total p.roles n)) (log_of w)
