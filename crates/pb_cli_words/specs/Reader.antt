-- The words as `clap` reads them: its one simple command, its matches, and what these ask for.
use Rattle.std.specs.Prelude.{◌≡◌, ℕ, nat_lt, cond, not, is_some, ◌&&◌, Bool, true, false, List, [], ◌∷◌, ◌++◌, length, Option, Some, None, codes}
use Rattle.std.specs.Str.{bytes_eq}
use Rattle.clap.specs.Words.{App, Rule, Row, Text, Kinds, all_of, first_of, one_of, fault_of, matches_of, new_app, new_rule, with_rule}
use Rattle.clap.specs.Simple.{on_top}
use Rattle.clap.specs.declared.builder.action.ArgAction.TheVariants.{Append, SetTrue}
use Rattle.pb_cli_words.specs.Said.{Given, Key, N, Seed, Turns, Mode, Schedule}
use Rattle.pb_cli_words.specs.Request.{Request, asked}

-- ---- the command

-- `--NAME` with a value
abbrev pub option_rule : Text → Rule
option_rule name = record (new_rule name) { long = Some name }

-- help and version are off, and no name of a program stands in front of the words
abbrev pub bare_app : App
bare_app =
    on_top (λ s. record s { no_binary_name = true; disable_help_flag = true; disable_help_subcommand = true; disable_version_flag = true })
    (new_app (codes "pabble"))

-- the command's word, then the files
abbrev pub words_app : App
words_app = with_rule (with_rule bare_app (new_rule (codes "command"))) (record (new_rule (codes "files")) { action = Some Append })

-- and the options
abbrev pub texts_app : App
texts_app =
    with_rule (with_rule (with_rule (with_rule words_app (option_rule (codes "n"))) (option_rule (codes "seed"))) (option_rule (codes "turns")))
    (option_rule (codes "mode"))

abbrev pub reader_app : App
reader_app = with_rule texts_app (record (option_rule (codes "schedule")) { action = Some SetTrue })

-- ---- the matches, where the words are taken

abbrev pub matched_if : Kinds → List Row → Option (List Row)
matched_if [] rows = Some rows
matched_if (kind ∷ kinds) rows = None

abbrev pub matched : List Text → Option (List Row)
matched words = matched_if (fault_of reader_app words) (matches_of reader_app words)

-- ---- what they ask for

abbrev pub flag_text : Bool → Text
flag_text true = codes "true"
flag_text false = codes "false"

-- the flag is up, or it is not
abbrev pub IsFlag : List Row → Bool → Type 0
IsFlag rows schedule = one_of (codes "schedule") rows ≡ Some (flag_text schedule)

abbrev pub with_value : Key → Option Text → List Given
with_value key None = []
with_value key (Some value) = record { key = key; value = value } ∷ []

abbrev pub with_flag : Bool → List Given
with_flag false = []
with_flag true = record { key = Schedule; value = [] } ∷ []

-- the options that are there, each once, in this order
abbrev pub listed : (n seed turns mode : Option Text) → Bool → List Given
listed n seed turns mode schedule = with_value N n ++ (with_value Seed seed ++ (with_value Turns turns ++ (with_value Mode mode ++ with_flag schedule)))

abbrev pub listed_in : List Row → Bool → List Given
listed_in rows schedule = listed (first_of (codes "n") rows) (first_of (codes "seed") rows) (first_of (codes "turns") rows) (first_of (codes "mode") rows) schedule

abbrev pub no_options : List Given → Bool
no_options [] = true
no_options (given ∷ options) = false

abbrev pub at_most_n : (seed turns mode : Option Text) → Bool → Bool
at_most_n seed turns mode schedule = not (is_some seed) && (not (is_some turns) && (not (is_some mode) && not schedule))

abbrev pub files_or : Option (List Text) → List Text
files_or None = []
files_or (Some files) = files

-- how many words stand behind the first `--`
abbrev pub behind_of : List Text → ℕ
behind_of [] = 0
behind_of (word ∷ words) = cond (bytes_eq word (codes "--")) (length words) (behind_of words)

-- the command stands in front of `--` where no more words than files stand behind
abbrev pub asked_for : Option Text → List Text → List Given → ℕ → Option Request
asked_for None files options behind = None
asked_for (Some command) files options behind = cond (nat_lt (length files) behind) None (asked command files options)

abbrev pub asked_by : List Row → Bool → ℕ → Option Request
asked_by rows schedule behind = asked_for (first_of (codes "command") rows) (files_or (all_of (codes "files") rows)) (listed_in rows schedule) behind
