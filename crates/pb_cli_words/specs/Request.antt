-- The forms of the words after the program's name.
use Rattle.std.specs.Prelude.{ℕ, ◌≤◌, nat_eq, cond, if◌then◌else◌, List, [], ◌∷◌, ◌++◌, Option, Some, None, codes}
use Rattle.std.specs.Cmp.Lexicographic.{pointwise}
use Rattle.std.specs.List.{filter_map}
use Rattle.pb_text.specs.declared.mode.Mode.TheVariants.{Eager, Waiting}
use Rattle.pb_text.specs.declared.limits.TheConstants.{MOST_EVENTS, MOST_NUMBER}
use Rattle.pb_cli_words.specs.Said as K
use Rattle.pb_cli_words.specs.declared.options.Modes.{Modes}
use Rattle.pb_cli_words.specs.declared.options.Modes.TheVariants.{Each, Mixed}
use Rattle.pb_cli_words.specs.declared.options.Shown.{Shown}
use Rattle.pb_cli_words.specs.declared.options.Shown.TheVariants.{Log, Schedule}
use Rattle.pb_cli_words.specs.declared.options.Options.{Options}
use Rattle.pb_cli_words.specs.declared.command.Command.{Command}
use Rattle.pb_cli_words.specs.declared.command.Command.TheVariants as C
use Rattle.pb_cli_words.specs.Numbers.{number_in}
use Rattle.pb_cli_words.specs.Said.{Given, Key, number_of, Said, said}

-- what is asked for, with the names of the files
pub data Request : Type 0 where
  check : (file : List ℕ) → Request  -- the verdict on a protocol
  gen : (file : List ℕ) → Request  -- its C text
  gen_with : (file kernels : List ℕ) → Request  -- its C text, with the bodies of a kernel file
  project : (file : List ℕ) → Request  -- its endpoint program
  sim : (text : List ℕ) (options : Options) → Request  -- a simulation of a C text
  replay : (text schedule : List ℕ) (n : ℕ) → Request  -- and one by a schedule
  run : (file : List ℕ) (options : Options) → Request  -- a simulation of a protocol
  demo : (count : ℕ) → Request  -- a simulation of a protocol of so many statements that the program makes itself
  expand : (file : List ℕ) → Request  -- the protocol file of a file with subprotocols
  strips : (file : List ℕ) → Request  -- the protocol file of a file with strips
  cost : (file : List ℕ) → Request  -- how much a protocol sends
  judge : (file log : List ℕ) (n : ℕ) → Request  -- the ruling on a log of a protocol

-- ---- the values of options

infixl 10 ◌>>=◌
abbrev pub ◌>>=◌ : {A B : Type 0} → Option A → (A → Option B) → Option B
(Some x) >>= f = f x
None >>= f = None

abbrev pub value_if : Key → Given → Option (List ℕ)
value_if key given = cond (nat_eq (number_of given.key) (number_of key)) (Some given.value) None

-- the values that an option is given, in order
abbrev pub values_of : Key → List Given → List (List ℕ)
values_of key options = filter_map (value_if key) options

-- none, or one; an option is there at most once
abbrev pub at_most_one : List (List ℕ) → Option (Option (List ℕ))
at_most_one [] = Some None
at_most_one (value ∷ []) = Some (Some value)
at_most_one (value ∷ another ∷ more) = None

abbrev pub value_of : Key → List Given → Option (Option (List ℕ))
value_of key options = at_most_one (values_of key options)

-- a number of a range that has to be there
abbrev pub needed : ℕ → ℕ → Option (List ℕ) → Option ℕ
needed low high None = None
needed low high (Some text) = number_in low high text

-- or one that may be left out
abbrev pub number_or : ℕ → ℕ → ℕ → Option (List ℕ) → Option ℕ
number_or other low high None = Some other
number_or other low high (Some text) = number_in low high text

abbrev pub modes_in : List ℕ → Option Modes
modes_in text =
    if pointwise nat_eq text (codes "eager") then Some (Each Eager)
    else if pointwise nat_eq text (codes "waiting") then Some (Each Waiting)
    else if pointwise nat_eq text (codes "mixed") then Some Mixed else None

abbrev pub modes_or : Option (List ℕ) → Option Modes
modes_or None = Some (Each Eager)
modes_or (Some text) = modes_in text

abbrev pub shown_if : Option (List ℕ) → Shown
shown_if None = Log
shown_if (Some value) = Schedule

-- N from 0 to 2,000,000,000, which has to be there
abbrev pub n_in : List Given → Option ℕ
n_in options = value_of K.N options >>= needed 0 MOST_NUMBER

-- a seed below 2^64, or 0
abbrev pub seed_in : List Given → Option ℕ
seed_in options = value_of K.Seed options >>= number_or 0 0 18446744073709551615

-- a number of events from 1 to 1,000,000, or 1,000,000
abbrev pub turns_in : List Given → Option ℕ
turns_in options = value_of K.Turns options >>= number_or MOST_EVENTS 1 MOST_EVENTS

-- `eager`, `waiting` or `mixed`, or `eager`
abbrev pub modes_given : List Given → Option Modes
modes_given options = value_of K.Mode options >>= modes_or

abbrev pub shown_in : List Given → Option Shown
shown_in options = value_of K.Schedule options >>= λ value. Some (shown_if value)

-- the options of a simulation by a seed
abbrev pub options_in : List Given → Option Options
options_in options =
    n_in options >>= λ n. seed_in options >>= λ seed. turns_in options >>= λ turns. modes_given options >>= λ modes. shown_in options >>= λ shown.
    Some (record { n = n; seed = seed; turns = turns; modes = modes; shown = shown })

-- `--n A` and no other option
abbrev pub only_n : List Given → Option ℕ
only_n [] = None
only_n (given ∷ []) = cond (nat_eq (number_of given.key) (number_of K.N)) (number_in 0 MOST_NUMBER given.value) None
only_n (given ∷ another ∷ more) = None

-- ---- the forms

-- one file, and two
abbrev pub one_file : List (List ℕ) → Option (List ℕ)
one_file [] = None
one_file (file ∷ []) = Some file
one_file (file ∷ another ∷ more) = None

abbrev pub two_files : List (List ℕ) → Option (List ℕ × List ℕ)
two_files [] = None
two_files (first ∷ []) = None
two_files (first ∷ second ∷ []) = Some (first, second)
two_files (first ∷ second ∷ another ∷ more) = None

-- the file of a command without options
abbrev pub plain_file : List (List ℕ) → List Given → Option (List ℕ)
plain_file files [] = one_file files
plain_file files (given ∷ more) = None

-- `gen` takes a file, and maybe a kernel file behind it
abbrev pub gen_of : List (List ℕ) → Option Request
gen_of [] = None
gen_of (file ∷ []) = Some (gen file)
gen_of (file ∷ kernels ∷ []) = Some (gen_with file kernels)
gen_of (file ∷ kernels ∷ another ∷ more) = None

abbrev pub gen_in : List (List ℕ) → List Given → Option Request
gen_in files [] = gen_of files
gen_in files (given ∷ more) = None

abbrev pub sim_in : List (List ℕ) → List Given → Option Request
sim_in files options = one_file files >>= λ text. options_in options >>= λ o. Some (sim text o)

abbrev pub run_in : List (List ℕ) → List Given → Option Request
run_in files options = one_file files >>= λ file. options_in options >>= λ o. Some (run file o)

abbrev pub replay_in : List (List ℕ) → List Given → Option Request
replay_in files options = two_files files >>= λ both. only_n options >>= λ n. Some (replay both.0 both.1 n)

-- `demo` takes a number of statements from 1 to 4,000 in the place of a file
abbrev pub demo_in : List (List ℕ) → List Given → Option Request
demo_in files options = plain_file files options >>= λ word. number_in 1 4000 word >>= λ count. Some (demo count)

abbrev pub judge_in : List (List ℕ) → List Given → Option Request
judge_in files options = two_files files >>= λ both. only_n options >>= λ n. Some (judge both.0 both.1 n)

-- a command that has a file and no options
abbrev pub of_file : List ℕ → List ℕ → Option Request
of_file command file =
    if pointwise nat_eq command (codes "check") then Some (check file)
    else if pointwise nat_eq command (codes "project") then Some (project file)
    else if pointwise nat_eq command (codes "expand") then Some (expand file)
    else if pointwise nat_eq command (codes "strips") then Some (strips file)
    else if pointwise nat_eq command (codes "cost") then Some (cost file)
    else None

-- a command by its name, with its files and options
abbrev pub asked : List ℕ → List (List ℕ) → List Given → Option Request
asked command files options =
    if pointwise nat_eq command (codes "check") then (plain_file files options >>= λ file. Some (check file))
    else if pointwise nat_eq command (codes "gen") then gen_in files options
    else if pointwise nat_eq command (codes "project") then (plain_file files options >>= λ file. Some (project file))
    else if pointwise nat_eq command (codes "sim") then sim_in files options
    else if pointwise nat_eq command (codes "replay") then replay_in files options
    else if pointwise nat_eq command (codes "run") then run_in files options
    else if pointwise nat_eq command (codes "demo") then demo_in files options
    else if pointwise nat_eq command (codes "expand") then (plain_file files options >>= λ file. Some (expand file))
    else if pointwise nat_eq command (codes "strips") then (plain_file files options >>= λ file. Some (strips file))
    else if pointwise nat_eq command (codes "cost") then (plain_file files options >>= λ file. Some (cost file))
    else if pointwise nat_eq command (codes "judge") then judge_in files options
    else None

-- the first word is the command, and the others are its files
abbrev pub named : List (List ℕ) → List Given → Option Request
named [] options = None
named (command ∷ files) options = asked command files options

-- the command stands before the separator
abbrev pub request_by : List (List ℕ) → List (List ℕ) → List Given → Option Request
request_by [] behind options = None
request_by (word ∷ words) behind options = named ((word ∷ words) ++ behind) options

abbrev pub request : List (List ℕ) → Option Request
request words = said words >>= λ s. request_by s.words s.behind s.options

-- what a command of the program asks for
abbrev pub request_of : Command → Request
request_of (C.Check file) = check file.now
request_of (C.Gen file) = gen file.now
request_of (C.GenWith file kernels) = gen_with file.now kernels.now
request_of (C.Project file) = project file.now
request_of (C.Sim text options) = sim text.now options
request_of (C.Replay text schedule n) = replay text.now schedule.now n
request_of (C.Run file options) = run file.now options
request_of (C.Demo count) = demo count
request_of (C.Expand file) = expand file.now
request_of (C.Strips file) = strips file.now
request_of (C.Cost file) = cost file.now
request_of (C.Judge file log n) = judge file.now log.now n

abbrev pub request_if : Option Command → Option Request
request_if None = None
request_if (Some command) = Some (request_of command)

-- at most 1,000,000 events are asked for
abbrev pub HasFewTurns : Options → Type 0
HasFewTurns options = options.turns ≤ MOST_EVENTS

-- at most 1,000,000 events are asked for
abbrev pub AsksForFew : Command → Type 0
AsksForFew (C.Check file) = Unit {0}
AsksForFew (C.Gen file) = Unit {0}
AsksForFew (C.GenWith file kernels) = Unit {0}
AsksForFew (C.Project file) = Unit {0}
AsksForFew (C.Sim text options) = HasFewTurns options
AsksForFew (C.Replay text schedule n) = Unit {0}
AsksForFew (C.Run file options) = HasFewTurns options
AsksForFew (C.Demo count) = Unit {0}
AsksForFew (C.Expand file) = Unit {0}
AsksForFew (C.Strips file) = Unit {0}
AsksForFew (C.Cost file) = Unit {0}
AsksForFew (C.Judge file log n) = Unit {0}
