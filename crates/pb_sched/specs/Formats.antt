-- Schedules as bytes, in the two formats.
use Rattle.std.specs.Prelude.{◌≡◌, ℕ, ◌<◌, ◌^◌, ⊤, List, ◌++◌, codes, decimal}
use Rattle.std.specs.List.{flat_map}
use Rattle.pb_text.specs.declared.mode.Mode.{Mode}
use Rattle.pb_text.specs.declared.mode.Mode.TheVariants.{Eager, Waiting}
use Rattle.pb_sched.specs.declared.format.Format.{Format}
use Rattle.pb_sched.specs.declared.format.Format.TheVariants.{One, Two}
use Rattle.pb_sched.specs.declared.schedule.Turn.{Turn}

abbrev pub head_line : Format → List ℕ
head_line One = codes "pabble schedule 1\n"
head_line Two = codes "pabble schedule 2\n"

abbrev pub seed_line : ℕ → List ℕ
seed_line seed = codes "seed " ++ decimal seed ++ codes "\n"

-- what stands behind the rank: the mode in format 2, nothing in format 1, and the line's end
abbrev pub ending : Format → Mode → List ℕ
ending One mode = codes "\n"
ending Two Eager = codes " e\n"
ending Two Waiting = codes " w\n"

abbrev pub turn_line : Format → Turn → List ℕ
turn_line format turn = decimal turn.rank ++ ending format turn.mode

abbrev pub layout : Format → ℕ → List Turn → List ℕ
layout format seed turns = head_line format ++ seed_line seed ++ flat_map (turn_line format) turns

-- each event of format 1 is eager
abbrev pub HasMode : Format → Mode → Type 0
HasMode One mode = mode ≡ Eager
HasMode Two mode = ⊤

pub record IsTurn (format : Format) (turn : Turn) : Type 0 where
  pub rank : turn.rank < 2 ^ 32
  pub mode : HasMode format turn.mode
