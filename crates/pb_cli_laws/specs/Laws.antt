-- What a text and a schedule are never answered, and that each has one reading.
use Rattle.std.specs.Prelude.{◌≡◌, ℕ, ◌<◌, ◌^◌, ℤ, List, length}
use Rattle.pb_local.specs.Tree.{program_of}
use Rattle.pb_ctree.specs.declared.tree.CTree.{CTree}
use Rattle.pb_cli_status.specs.declared.refusal.Refusal.{Refusal}
use Rattle.pb_cli_status.specs.declared.refusal.Refusal.TheVariants as refusal
use Rattle.pb_cli_words.specs.declared.options.Modes.{Modes}
use Rattle.pb_sched.specs.Outcomes.{IsSchedule}
use Rattle.pb_sched.specs.declared.schedule.Turn.{Turn}
use Rattle.pb_sim.specs.declared.seen.Seen.{Seen}
use Rattle.pb_sim_play.specs.Plans.{drawn}
use Rattle.pb_sim_play.specs.Endings.{IsUnready}
use Rattle.pb_cli_simulate.specs.Sources.{IsTextOf, IsNoText, IsNoSchedule}

-- of a text no refusal but want of memory is true
abbrev pub TextHasNoFault : Type 0
TextHasNoFault = (bytes : List ℕ) (tree : CTree) → IsTextOf bytes tree → (r : Refusal) → IsNoText bytes r → r ≡ refusal.NoMemory

-- And its trees are of one program. Each slice keeps the bound; without it this isn't so, since of the number of a loop no
-- more than the last 64 digits are written.
abbrev pub OneTextTree : Type 0
OneTextTree = (bytes : List ℕ) (t u : CTree) → length bytes < 2 ^ 64 → IsTextOf bytes t → IsTextOf bytes u → program_of t.local ≡ program_of u.local

-- of a schedule no refusal but want of memory is true
abbrev pub ScheduleHasNoFault : Type 0
ScheduleHasNoFault = (bytes : List ℕ) (seed : ℕ) (turns : List Turn) → IsSchedule bytes seed turns → (r : Refusal) → IsNoSchedule bytes r → r ≡ refusal.NoMemory

-- and it has one seed and one list of events
abbrev pub OneSchedule : Type 0
OneSchedule =
    (bytes : List ℕ) (seed other : ℕ) (turns others : List Turn) → IsSchedule bytes seed turns → IsSchedule bytes other others
    → (seed ≡ other) × (turns ≡ others)

-- where a seed draws the next event, the rank that it draws has a step
abbrev pub DrawnHasAStep : Type 0
DrawnHasAStep =
    (tree : CTree) (n : ℤ) (seed : ℕ) (modes : Modes) (t : ℕ) (x : Seen) → x.state.tree ≡ tree → x.state.n ≡ n
    → IsUnready tree n (drawn seed modes) t x → ⊥
