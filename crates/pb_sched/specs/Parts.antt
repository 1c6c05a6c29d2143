-- What a text begins with: a head, a seed, an event. Each is read with the bytes behind it.
use Rattle.std.specs.Prelude.{◌≡◌, ℕ, ◌+◌, ◌≤◌, ◌^◌, ◌⊎◌, nat_eq, nat_lt, Bool, true, false, cond, is_some, List, [], ◌∷◌, ◌++◌, length, Option, Some, None, codes}
use Rattle.std.specs.List.{AllByRecursion, flat_map}
use Rattle.pb_text_read.specs.Fronts.{◌>>=◌, strip, number_below}
use Rattle.pb_text.specs.declared.mode.Mode.{Mode}
use Rattle.pb_text.specs.declared.mode.Mode.TheVariants.{Eager, Waiting}
use Rattle.pb_text.specs.declared.limits.TheConstants.{MOST_EVENTS}
use Rattle.pb_sched.specs.declared.fault.ScheduleFault.{ScheduleFault}
use Rattle.pb_sched.specs.declared.fault.ScheduleFault.TheVariants.{BadLine, TooMany}
use Rattle.pb_sched.specs.declared.format.Format.{Format}
use Rattle.pb_sched.specs.declared.format.Format.TheVariants.{One, Two}
use Rattle.pb_sched.specs.declared.schedule.Turn.{Turn}
use Rattle.pb_sched.specs.Formats.{turn_line, IsTurn}

-- a number that fits 64 bits: a zero ends it
abbrev pub number_at : List ℕ → Option (ℕ × List ℕ)
number_at [] = None
number_at (c ∷ cs) = cond (nat_eq c 48) (Some (0, cs)) (number_below (2 ^ 64) (c ∷ cs))

-- the first that is there
abbrev pub or_else : {A : Type 0} → Option A → Option A → Option A
or_else (Some x) o = Some x
or_else None o = o

abbrev pub with : {A : Type 0} → A → Option (List ℕ) → Option (A × List ℕ)
with x None = None
with x (Some rest) = Some (x, rest)

abbrev pub head_at : List ℕ → Option (Format × List ℕ)
head_at text = or_else (with Two (strip (codes "pabble schedule 2\n") text)) (with One (strip (codes "pabble schedule 1\n") text))

abbrev pub seed_at : List ℕ → Option (ℕ × List ℕ)
seed_at text = strip (codes "seed ") text >>= λ digits. number_at digits >>= λ seed. with seed.0 (strip (codes "\n") seed.1)

abbrev pub mode_at : Format → List ℕ → Option (Mode × List ℕ)
mode_at One text = with Eager (strip (codes "\n") text)
mode_at Two text = or_else (with Eager (strip (codes " e\n") text)) (with Waiting (strip (codes " w\n") text))

abbrev pub turn_of : ℕ → Option (Mode × List ℕ) → Option (Turn × List ℕ)
turn_of rank None = None
turn_of rank (Some x) = Some (record { rank = rank; mode = x.0 }, x.1)

abbrev pub turn_at : Format → List ℕ → Option (Turn × List ℕ)
turn_at format text = number_at text >>= λ rank. cond (nat_lt rank.0 (2 ^ 32)) (turn_of rank.0 (mode_at format rank.1)) None

-- these events stand in front of a text, and then the rest
pub record HasFront (format : Format) (text : List ℕ) (turns : List Turn) (rest : List ℕ) : Type 0 where
  pub is : text ≡ flat_map (turn_line format) turns ++ rest
  pub each : AllByRecursion (IsTurn format) turns
  pub most : length turns ≤ MOST_EVENTS

-- and there are no more, or 1,000,000
pub record HasTurns (format : Format) (text : List ℕ) (turns : List Turn) (rest : List ℕ) : Type 0 where
  pub front : HasFront format text turns rest
  pub stops : (length turns ≡ MOST_EVENTS) ⊎ (turn_at format rest ≡ None)

abbrev pub fault_by : ℕ → Bool → ScheduleFault
fault_by line true = TooMany line
fault_by line false = BadLine line

-- what is wrong behind so many events
abbrev pub fault_at : Format → ℕ → List ℕ → Option ScheduleFault
fault_at format count [] = None
fault_at format count (byte ∷ bytes) = Some (fault_by (count + 3) (is_some (turn_at format (byte ∷ bytes))))

-- a value that was read, and the bytes behind it
abbrev pub GivesTo : {A B : Type 0} → (A → B × List ℕ) → Option A → Option (B × List ℕ) → Type 0
GivesTo shows None read = read ≡ None
GivesTo shows (Some x) read = read ≡ Some (shows x)
