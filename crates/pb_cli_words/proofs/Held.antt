-- What the rows hold, of the words and options so far.
use Rattle.std.proofs.Common.{◌≡◌, Bool, true, false, ◌||◌, cond, codes, is_some, nat_eq, List, [], ◌∷◌, ◌++◌, Option, Some, None, refl, sym, ap, ◌∙◌, subst, find, fold, append-nil, option_map, ◌⊎◌, inl, inr, ⊎_elim}
use Rattle.std.proofs.lemmas.Bool.{true≢false}
use Rattle.std.proofs.lemmas.List.Elements.{filter_map-append}
use Rattle.std.proofs.lemmas.Slice.Eq.{bytes_eq-Decides}
use Rattle.std.specs.Str.{bytes_eq}
use Rattle.clap.specs.Words.{Row, Rule, Text, all_of, first_of}
use Rattle.clap.specs.Walk.{default_rows, finished, has_row, is_empty, reading_by, row_text, more_values, stronger, used, with_default, with_values, without}
use Rattle.clap.specs.Kinds.{or_else}
use Rattle.clap.specs.Faults.{default_fault, defaults_fault, given_default_fault, use_fault}
use Rattle.clap.specs.declared.builder.value_parser.Reading.TheVariants.{AsWritten}
use Rattle.clap.specs.declared.parser.matches.ValueSource.{ValueSource}
use Rattle.clap.specs.declared.parser.matches.ValueSource.TheVariants.{CommandLine, DefaultValue}
use Rattle.clap.specs.declared.error.kind.ErrorKind.TheVariants as kind
use Rattle.pb_cli_words.specs.Said.{Given, Key, N, Seed, Turns, Mode, Schedule, number_of, takes_value}
use Rattle.pb_cli_words.specs.Reader.{IsFlag, files_or, flag_text}
use Rattle.std.specs.Prelude.{option_and_then, slice_get}
use Rattle.pb_cli_words.specs.Request.{value_if, values_of}
use Rattle.pb_cli_words.proofs.Rules.{rules, text_rule, command_rule, files_rule, flag_rule, id_of, rule_by}
use Rattle.pb_cli_words.proofs.Steps.{Pending, held, base, taker}

-- ---- one row

abbrev pub row_at : Text → List Row → Option Row
row_at id rows = find (λ r. bytes_eq r.id id) rows

abbrev pub line : Text → ValueSource → List Text → Row
line id source values = record { id = id; values = values; count = None; source = Some source; reading = AsWritten }

abbrev put : Text → ValueSource → List Text → List Row → List Row
put id source values rows = with_values id AsWritten source values rows

there : (id : Text) (rows : List Row) → has_row id rows ≡ is_some (row_at id rows)
there id [] = refl
there id (r ∷ rows) = go (bytes_eq r.id id) (there id rows)
  where
    go : (b : Bool) → has_row id rows ≡ is_some (row_at id rows) → (b || has_row id rows) ≡ is_some (cond b (Some r) (row_at id rows))
    go true ih = refl
    go false ih = ih

id_is : (r : Row) (id : Text) → bytes_eq r.id id ≡ true → r.id ≡ id
id_is r id e = (bytes_eq-Decides r.id id).0 e

alike : (id : Text) → bytes_eq id id ≡ true
alike id = (bytes_eq-Decides id id).1 refl

some_none : {A : Type 0} (b : Bool) (x : A) (o : Option A) → cond b (Some x) o ≡ None → (b ≡ false) × (o ≡ None)
some_none true x o e = absurd cc
some_none false x o e = (refl, e)

put_fresh : (id : Text) (source : ValueSource) (values : List Text) (rows : List Row) → row_at id rows ≡ None → row_at id (put id source values rows) ≡ Some (line id source values)
put_fresh id source values [] e = rw (alike id) refl
put_fresh id source values (r ∷ rows) e =
    let parts = some_none (bytes_eq r.id id) r (row_at id rows) e in
    rw (parts.0) (rw (parts.0) (put_fresh id source values rows parts.1))

put_other : (id other : Text) (source : ValueSource) (values : List Text) (rows : List Row) → bytes_eq id other ≡ false → row_at other (put id source values rows) ≡ row_at other rows
put_other id other source values [] e = rw e refl
put_other id other source values (r ∷ rows) e = go (bytes_eq r.id id) (put_other id other source values rows e) refl
  where
    go : (b : Bool) → row_at other (put id source values rows) ≡ row_at other rows → bytes_eq r.id id ≡ b
        → row_at other (cond b (more_values source values r ++ rows) (r ∷ put id source values rows)) ≡ cond (bytes_eq r.id other) (Some r) (row_at other rows)
    go true ih is =
        let miss : bytes_eq r.id other ≡ false = ap (λ x. bytes_eq x other) (id_is r id is) ∙ e in
        rw miss refl
    go false ih is = ap (cond (bytes_eq r.id other) (Some r)) ih

put_more : (id : Text) (values more : List Text) (rows : List Row) → row_at id rows ≡ Some (line id CommandLine values)
    → row_at id (put id CommandLine more rows) ≡ Some (line id CommandLine (values ++ more))
put_more id values more [] e = absurd cc
put_more id values more (r ∷ rows) e = go (bytes_eq r.id id) (put_more id values more rows) refl e
  where
    go : (b : Bool) → (row_at id rows ≡ Some (line id CommandLine values) → row_at id (put id CommandLine more rows) ≡ Some (line id CommandLine (values ++ more))) → bytes_eq r.id id ≡ b → cond b (Some r) (row_at id rows) ≡ Some (line id CommandLine values)
        → row_at id (cond b (more_values CommandLine more r ++ rows) (r ∷ put id CommandLine more rows)) ≡ Some (line id CommandLine (values ++ more))
    go true ih is e = let r_is : r ≡ line id CommandLine values = cc in rw is (ap (λ (x : Row). Some (record x { values = x.values ++ more; source = Some (stronger x.source CommandLine) })) r_is)
    go false ih is e = rw is (ih e)

without_none : (id : Text) (rows : List Row) → row_at id rows ≡ None → without id rows ≡ rows
without_none id [] e = refl
without_none id (r ∷ rows) e =
    let parts = some_none (bytes_eq r.id id) r (row_at id rows) e in
    rw (parts.0) (ap (λ rs. r ∷ rs) (without_none id rows parts.1))

-- ---- what the rows hold

abbrev command_row : List Text → Option Row
command_row [] = None
command_row (word ∷ words) = Some (line (codes "command") CommandLine (word ∷ []))

abbrev files_row : List Text → Option Row
files_row [] = None
files_row (word ∷ []) = None
files_row (word ∷ file ∷ files) = Some (line (codes "files") CommandLine (file ∷ files))

-- the text that `clap` keeps of a value; that of the flag is `true`
abbrev pub kept : Key → Text → Text
kept Schedule value = codes "true"
kept key value = value

abbrev option_row : Key → List Text → Option Row
option_row key [] = None
option_row key (value ∷ values) = Some (line (id_of key) CommandLine (kept key value ∷ []))

abbrev pub AtMostOne : List Text → Type 0
AtMostOne [] = Unit {0}
AtMostOne (value ∷ []) = Unit {0}
AtMostOne (value ∷ another ∷ values) = ⊥

pub record Holds (rows : List Row) (words : List Text) (options : List Given) : Type 0 where
  pub command : row_at (codes "command") rows ≡ command_row words
  pub files : row_at (codes "files") rows ≡ files_row words
  pub given : (key : Key) → row_at (id_of key) rows ≡ option_row key (values_of key options)
  pub once : (key : Key) → AtMostOne (values_of key options)

pub nothing_held : Holds [] [] []
nothing_held = record { command = refl; files = refl; given = λ key. refl; once = λ key. tt }

-- ---- one word more

no_command : (key : Key) → bytes_eq (codes "command") (id_of key) ≡ false
no_command N = refl
no_command Seed = refl
no_command Turns = refl
no_command Mode = refl
no_command Schedule = refl

no_files : (key : Key) → bytes_eq (codes "files") (id_of key) ≡ false
no_files N = refl
no_files Seed = refl
no_files Turns = refl
no_files Mode = refl
no_files Schedule = refl

pub more_word : (rows : List Row) (words : List Text) (options : List Given) (word : Text) → Holds rows words options
    → Holds (used (taker words) (word ∷ []) rows) (words ++ word ∷ []) options
more_word rows [] options word h =
    let same : without (codes "command") rows ≡ rows = without_none (codes "command") rows h.command in
    let change : put (codes "command") CommandLine (word ∷ []) rows ≡ used command_rule (word ∷ []) rows = ap (put (codes "command") CommandLine (word ∷ [])) (sym same) in
    subst (λ r. Holds r (word ∷ []) options) change (record {
      command = put_fresh (codes "command") CommandLine (word ∷ []) rows h.command;
      files = put_other (codes "command") (codes "files") CommandLine (word ∷ []) rows refl ∙ h.files;
      given = λ key. put_other (codes "command") (id_of key) CommandLine (word ∷ []) rows (no_command key) ∙ h.given key;
      once = h.once;
    })
more_word rows (c ∷ []) options word h = record {
  command = put_other (codes "files") (codes "command") CommandLine (word ∷ []) rows refl ∙ h.command;
  files = put_fresh (codes "files") CommandLine (word ∷ []) rows h.files;
  given = λ key. put_other (codes "files") (id_of key) CommandLine (word ∷ []) rows (no_files key) ∙ h.given key;
  once = h.once;
}
more_word rows (c ∷ f ∷ fs) options word h = record {
  command = put_other (codes "files") (codes "command") CommandLine (word ∷ []) rows refl ∙ h.command;
  files = put_more (codes "files") (f ∷ fs) (word ∷ []) rows h.files;
  given = λ key. put_other (codes "files") (id_of key) CommandLine (word ∷ []) rows (no_files key) ∙ h.given key;
  once = h.once;
}

-- no kind of error comes of it
pub word_fits : (rows : List Row) (words : List Text) (options : List Given) (word : Text) → Holds rows words options → use_fault false (taker words) (word ∷ []) rows ≡ []
word_fits rows [] options word h =
    let none : has_row (codes "command") rows ≡ false = there (codes "command") rows ∙ ap is_some h.command in
    rw none refl
word_fits rows (c ∷ ws) options word h = refl

-- ---- one option more

abbrev pub gave : Key → Text → List Given
gave key value = record { key = key; value = value } ∷ []

abbrev IsApart : Key → Key → Type 0
IsApart key other = (bytes_eq (id_of key) (id_of other) ≡ false) × (nat_eq (number_of key) (number_of other) ≡ false)

apart : (key other : Key) → (key ≡ other) ⊎ IsApart key other
apart N N = inl refl
apart N Seed = inr (refl, refl)
apart N Turns = inr (refl, refl)
apart N Mode = inr (refl, refl)
apart N Schedule = inr (refl, refl)
apart Seed N = inr (refl, refl)
apart Seed Seed = inl refl
apart Seed Turns = inr (refl, refl)
apart Seed Mode = inr (refl, refl)
apart Seed Schedule = inr (refl, refl)
apart Turns N = inr (refl, refl)
apart Turns Seed = inr (refl, refl)
apart Turns Turns = inl refl
apart Turns Mode = inr (refl, refl)
apart Turns Schedule = inr (refl, refl)
apart Mode N = inr (refl, refl)
apart Mode Seed = inr (refl, refl)
apart Mode Turns = inr (refl, refl)
apart Mode Mode = inl refl
apart Mode Schedule = inr (refl, refl)
apart Schedule N = inr (refl, refl)
apart Schedule Seed = inr (refl, refl)
apart Schedule Turns = inr (refl, refl)
apart Schedule Mode = inr (refl, refl)
apart Schedule Schedule = inl refl

pub values_more : (key other : Key) (value : Text) (options : List Given) (b : Bool) → nat_eq (number_of key) (number_of other) ≡ b
    → values_of other (options ++ gave key value) ≡ values_of other options ++ cond b (value ∷ []) []
values_more key other value options true e = filter_map-append (value_if other) options (gave key value) ∙ ap (λ l. values_of other options ++ l) (rw e refl)
values_more key other value options false e = filter_map-append (value_if other) options (gave key value) ∙ ap (λ l. values_of other options ++ l) (rw e refl)

abbrev option_line : Key → Text → List Row → List Row
option_line key value rows = put (id_of key) CommandLine (kept key value ∷ []) rows

-- how `clap` has the values of one use
abbrev pub use_values : Key → Text → List Text
use_values Schedule value = []
use_values key value = value ∷ []

use_is : (key : Key) (value : Text) (rows : List Row) → used (rule_by key) (use_values key value) rows ≡ option_line key value (without (id_of key) rows)
use_is N value rows = refl
use_is Seed value rows = refl
use_is Turns value rows = refl
use_is Mode value rows = refl
use_is Schedule value rows = refl

off_command : (key : Key) → bytes_eq (id_of key) (codes "command") ≡ false
off_command N = refl
off_command Seed = refl
off_command Turns = refl
off_command Mode = refl
off_command Schedule = refl

off_files : (key : Key) → bytes_eq (id_of key) (codes "files") ≡ false
off_files N = refl
off_files Seed = refl
off_files Turns = refl
off_files Mode = refl
off_files Schedule = refl

pub same_key : (key : Key) → nat_eq (number_of key) (number_of key) ≡ true
same_key N = refl
same_key Seed = refl
same_key Turns = refl
same_key Mode = refl
same_key Schedule = refl

module _ (rows : List Row) (words : List Text) (options : List Given) (key : Key) (value : Text) (h : Holds rows words options) where
  -- the values of the option itself, and of another one
  its_values : values_of key options ≡ [] → values_of key (options ++ gave key value) ≡ value ∷ []
  its_values none = values_more key key value options true (same_key key) ∙ ap (λ l. l ++ value ∷ []) none

  other_values : (other : Key) → nat_eq (number_of key) (number_of other) ≡ false → values_of other (options ++ gave key value) ≡ values_of other options
  other_values other e = values_more key other value options false e ∙ append-nil (values_of other options)

  pub more_option : values_of key options ≡ [] → Holds (used (rule_by key) (use_values key value) rows) words (options ++ gave key value)
  more_option none =
      let free : row_at (id_of key) rows ≡ None = h.given key ∙ ap (option_row key) none in
      let line_at : row_at (id_of key) (option_line key value rows) ≡ option_row key (values_of key (options ++ gave key value)) =
      put_fresh (id_of key) CommandLine (kept key value ∷ []) rows free ∙ ap (option_row key) (sym (its_values none)) in
      let one : AtMostOne (values_of key (options ++ gave key value)) = subst AtMostOne (sym (its_values none)) tt in
      let change : option_line key value rows ≡ used (rule_by key) (use_values key value) rows = ap (option_line key value) (sym (without_none (id_of key) rows free)) ∙ sym (use_is key value rows) in
      subst (λ r. Holds r words (options ++ gave key value)) change (record {
        command = put_other (id_of key) (codes "command") CommandLine (kept key value ∷ []) rows (off_command key) ∙ h.command;
        files = put_other (id_of key) (codes "files") CommandLine (kept key value ∷ []) rows (off_files key) ∙ h.files;
        given = λ other. ⊎_elim (λ same. subst (λ k. row_at (id_of k) (option_line key value rows) ≡ option_row k (values_of k (options ++ gave key value))) same line_at)
            (λ e. put_other (id_of key) (id_of other) CommandLine (kept key value ∷ []) rows e.0 ∙ (h.given other ∙ ap (option_row other) (sym (other_values other e.1)))) (apart key other);
        once = λ other. ⊎_elim (λ same. subst (λ k. AtMostOne (values_of k (options ++ gave key value))) same one) (λ e. subst AtMostOne (sym (other_values other e.1)) (h.once other)) (apart key other);
      })

  -- the option is there once, or more than once
  pub option_fits : values_of key options ≡ [] → use_fault false (rule_by key) (use_values key value) rows ≡ []
  option_fits none = go key (there (id_of key) rows ∙ ap is_some (h.given key ∙ ap (option_row key) none))
    where
      go : (k : Key) → has_row (id_of k) rows ≡ false → use_fault false (rule_by k) (use_values k value) rows ≡ []
      go N e = rw e refl
      go Seed e = rw e refl
      go Turns e = rw e refl
      go Mode e = rw e refl
      go Schedule e = rw e refl

  pub option_again : (v : Text) (vs : List Text) → values_of key options ≡ v ∷ vs → use_fault false (rule_by key) (use_values key value) rows ≡ kind.ArgumentConflict ∷ []
  option_again v vs some = go key (there (id_of key) rows ∙ ap is_some (h.given key ∙ ap (option_row key) some))
    where
      go : (k : Key) → has_row (id_of k) rows ≡ true → use_fault false (rule_by k) (use_values k value) rows ≡ kind.ArgumentConflict ∷ []
      go N e = rw e refl
      go Seed e = rw e refl
      go Turns e = rw e refl
      go Mode e = rw e refl
      go Schedule e = rw e refl

-- ---- at the end

both_same : {A : Type 0} (b : Bool) (x : A) → cond b x x ≡ x
both_same true x = refl
both_same false x = refl

no_default : (a : Rule) (rest : List Rule) (rows : List Row) → a.defaults ≡ [] → fold with_default rows (a ∷ rest) ≡ fold with_default rows rest
no_default a rest rows e =
    ap (λ r. fold with_default r rest) (ap (λ d. cond (has_row a.id rows) rows (default_rows a.id (reading_by a) d rows)) e ∙ both_same (has_row a.id rows) rows)

-- the arguments, from the last on
abbrev modes : List Rule
modes = text_rule (codes "mode") ∷ flag_rule ∷ []

abbrev turns : List Rule
turns = text_rule (codes "turns") ∷ modes

abbrev seeds : List Rule
seeds = text_rule (codes "seed") ∷ turns

abbrev numbers : List Rule
numbers = text_rule (codes "n") ∷ seeds

pub finished_is : (rows : List Row) (pending : Pending) → finished rules (held rows pending) ≡ with_default (base rows pending) flag_rule
unfolding rules
finished_is rows pending =
    let r = base rows pending in
    no_default command_rule (files_rule ∷ numbers) r refl
    ∙ (no_default files_rule numbers r refl
    ∙ (no_default (text_rule (codes "n")) seeds r refl
    ∙ (no_default (text_rule (codes "seed")) turns r refl
    ∙ (no_default (text_rule (codes "turns")) modes r refl ∙ no_default (text_rule (codes "mode")) (flag_rule ∷ []) r refl))))

-- no default fails
each_default : (a : Rule) (rest : List Rule) → ((rows : List Row) → default_fault rows a ≡ []) → ((rows : List Row) → defaults_fault rows rest ≡ []) → (rows : List Row)
    → defaults_fault rows (a ∷ rest) ≡ []
unfolding defaults_fault
each_default a rest this next rows = ap (λ k. or_else k (defaults_fault (with_default rows a) rest)) (this rows) ∙ next (with_default rows a)

no_more : (rows : List Row) → defaults_fault rows [] ≡ []
unfolding defaults_fault
no_more rows = refl

has_none : (a : Rule) → a.defaults ≡ [] → (rows : List Row) → default_fault rows a ≡ []
has_none a e rows = ap (λ d. cond (has_row a.id rows || is_empty d) [] (given_default_fault a d)) e ∙ go (has_row a.id rows)
  where
    go : (b : Bool) → cond (b || true) [] (given_default_fault a []) ≡ []
    go true = refl
    go false = refl

has_flag : (rows : List Row) → default_fault rows flag_rule ≡ []
has_flag rows = go (has_row (codes "schedule") rows)
  where
    go : (b : Bool) → cond (b || false) [] (given_default_fault flag_rule (codes "false" ∷ [])) ≡ []
    go true = refl
    go false = refl

pub no_default_fault : (rows : List Row) → defaults_fault rows rules ≡ []
unfolding rules
no_default_fault =
    each_default command_rule _ (has_none command_rule refl)
    (each_default files_rule _ (has_none files_rule refl)
    (each_default (text_rule (codes "n")) _ (has_none (text_rule (codes "n")) refl)
    (each_default (text_rule (codes "seed")) _ (has_none (text_rule (codes "seed")) refl)
    (each_default (text_rule (codes "turns")) _ (has_none (text_rule (codes "turns")) refl)
    (each_default (text_rule (codes "mode")) _ (has_none (text_rule (codes "mode")) refl) (each_default flag_rule [] has_flag no_more))))))

abbrev pub first : List Text → Option Text
first [] = None
first (value ∷ values) = Some value

abbrev pub others : List Text → List Text
others [] = []
others (word ∷ words) = words

abbrev pub is_there : List Text → Bool
is_there [] = false
is_there (value ∷ values) = true

-- what the matches say at the end
pub record Says (rows : List Row) (words : List Text) (options : List Given) : Type 0 where
  pub command : first_of (codes "command") rows ≡ first words
  pub files : files_or (all_of (codes "files") rows) ≡ others words
  pub n : first_of (codes "n") rows ≡ first (values_of N options)
  pub seed : first_of (codes "seed") rows ≡ first (values_of Seed options)
  pub turns : first_of (codes "turns") rows ≡ first (values_of Turns options)
  pub mode : first_of (codes "mode") rows ≡ first (values_of Mode options)
  pub flag : IsFlag rows (is_there (values_of Schedule options))

-- the rows of the end hold what was held, and the flag
says_of : (rows : List Row) (words : List Text) (options : List Given) → row_at (codes "command") rows ≡ command_row words → row_at (codes "files") rows ≡ files_row words
    → ((key : Key) → takes_value key ≡ true → row_at (id_of key) rows ≡ option_row key (values_of key options)) → IsFlag rows (is_there (values_of Schedule options)) → Says rows words options
says_of rows words options command files given flag = record {
  command = ap (option_and_then (λ r. slice_get r.values 0)) command ∙ a_command words;
  files = ap (λ o. files_or (option_map (λ r. r.values) o)) files ∙ the_files words;
  n = ap (option_and_then (λ r. slice_get r.values 0)) (given N refl) ∙ a_value N (values_of N options) (λ v. refl);
  seed = ap (option_and_then (λ r. slice_get r.values 0)) (given Seed refl) ∙ a_value Seed (values_of Seed options) (λ v. refl);
  turns = ap (option_and_then (λ r. slice_get r.values 0)) (given Turns refl) ∙ a_value Turns (values_of Turns options) (λ v. refl);
  mode = ap (option_and_then (λ r. slice_get r.values 0)) (given Mode refl) ∙ a_value Mode (values_of Mode options) (λ v. refl);
  flag = flag;
}
  where
    a_command : (words : List Text) → option_and_then (λ r. slice_get r.values 0) (command_row words) ≡ first words
    a_command [] = refl
    a_command (word ∷ words) = refl

    the_files : (words : List Text) → files_or (option_map (λ r. r.values) (files_row words)) ≡ others words
    the_files [] = refl
    the_files (word ∷ []) = refl
    the_files (word ∷ file ∷ files) = refl

    a_value : (key : Key) (values : List Text) → ((v : Text) → kept key v ≡ v) → option_and_then (λ r. slice_get r.values 0) (option_row key values) ≡ first values
    a_value key [] same = refl
    a_value key (v ∷ vs) same = ap Some (same v)

apart_flag : (key : Key) → takes_value key ≡ true → bytes_eq (codes "schedule") (id_of key) ≡ false
apart_flag N e = refl
apart_flag Seed e = refl
apart_flag Turns e = refl
apart_flag Mode e = refl
apart_flag Schedule e = absurd (true≢false (sym e))

pub says : (rows : List Row) (words : List Text) (options : List Given) → Holds rows words options → Says (with_default rows flag_rule) words options
says rows words options h = go (values_of Schedule options) refl
  where
    go : (vs : List Text) → values_of Schedule options ≡ vs → Says (with_default rows flag_rule) words options
    go [] e =
        let free : row_at (codes "schedule") rows ≡ None = h.given Schedule ∙ ap (option_row Schedule) e in
        let out : has_row (codes "schedule") rows ≡ false = there (codes "schedule") rows ∙ ap is_some free in
        let same : put (codes "schedule") DefaultValue (codes "false" ∷ []) rows ≡ with_default rows flag_rule = ap (λ b. cond b rows (put (codes "schedule") DefaultValue (codes "false" ∷ []) rows)) (sym out) in
        subst (λ r. Says r words options) same (says_of (put (codes "schedule") DefaultValue (codes "false" ∷ []) rows) words options
        (put_other (codes "schedule") (codes "command") DefaultValue (codes "false" ∷ []) rows refl ∙ h.command)
        (put_other (codes "schedule") (codes "files") DefaultValue (codes "false" ∷ []) rows refl ∙ h.files)
        (λ key valued. put_other (codes "schedule") (id_of key) DefaultValue (codes "false" ∷ []) rows (apart_flag key valued) ∙ h.given key)
        (ap (option_and_then row_text) (put_fresh (codes "schedule") DefaultValue (codes "false" ∷ []) rows free) ∙ ap (λ vs. Some (flag_text (is_there vs))) (sym e)))
    go (v ∷ vs) e =
        let full : row_at (codes "schedule") rows ≡ Some (line (codes "schedule") CommandLine (codes "true" ∷ [])) = h.given Schedule ∙ ap (option_row Schedule) e in
        let out : has_row (codes "schedule") rows ≡ true = there (codes "schedule") rows ∙ ap is_some full in
        let same : rows ≡ with_default rows flag_rule = ap (λ b. cond b rows (put (codes "schedule") DefaultValue (codes "false" ∷ []) rows)) (sym out) in
        subst (λ r. Says r words options) same (says_of rows words options h.command h.files (λ key valued. h.given key)
        (ap (option_and_then row_text) full ∙ ap (λ vs. Some (flag_text (is_there vs))) (sym e)))
