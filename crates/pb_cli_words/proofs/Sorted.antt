-- Options in any order ask for what they ask for in one order, where each is there at most once.
use Rattle.std.proofs.Common.{◌≡◌, ℕ, ◌+◌, Bool, true, false, cond, codes, nat_eq, List, [], ◌∷◌, length, Option, Some, None, refl, sym, ap, ap₂, ◌∙◌, arith}
use Rattle.std.proofs.lemmas.Bool.{ne_eqb}
use Rattle.std.specs.Cmp.Lexicographic.{pointwise}
use Rattle.pb_text.specs.declared.limits.TheConstants.{MOST_EVENTS, MOST_NUMBER}
use Rattle.pb_cli_words.specs.declared.options.Options.{Options}
use Rattle.pb_cli_words.specs.declared.options.Modes.{Modes}
use Rattle.pb_cli_words.specs.declared.options.Shown.{Shown}
use Rattle.pb_cli_words.specs.Numbers.{number_in}
use Rattle.pb_cli_words.specs.Said.{Given, Key, N, Seed, Turns, Mode, Schedule, number_of}
use Rattle.pb_cli_words.specs.Request.{◌>>=◌, Request, check, project, sim, run, replay, demo, expand, strips, cost, judge, asked, at_most_one, values_of, value_of, needed, number_or, modes_or, shown_if, n_in, shown_in, options_in, only_n, one_file, two_files, plain_file, gen_in, gen_of}
use Rattle.pb_cli_words.specs.Reader.{listed, no_options}
use Rattle.pb_cli_words.proofs.Listed.{value_n, value_seed, value_turns, value_mode, value_schedule, flag_value, plain_is, gen_is}
use Rattle.pb_cli_words.proofs.Held.{AtMostOne, first, is_there}

abbrev Text : Type 0
Text = List ℕ

-- ---- what is asked for, by what the options are to each command

abbrev pub asked_with : Text → List Text → Option Text → Option Request → Option Options → Option ℕ → Option Request
asked_with command files file gens options n =
    cond (pointwise nat_eq command (codes "check")) (file >>= λ file. Some (check file))
    (cond (pointwise nat_eq command (codes "gen")) gens
    (cond (pointwise nat_eq command (codes "project")) (file >>= λ file. Some (project file))
    (cond (pointwise nat_eq command (codes "sim")) (one_file files >>= λ text. options >>= λ o. Some (sim text o))
    (cond (pointwise nat_eq command (codes "replay")) (two_files files >>= λ both. n >>= λ n. Some (replay both.0 both.1 n))
    (cond (pointwise nat_eq command (codes "run")) (one_file files >>= λ file. options >>= λ o. Some (run file o))
    (cond (pointwise nat_eq command (codes "demo")) (file >>= λ word. number_in 1 4000 word >>= λ count. Some (demo count))
    (cond (pointwise nat_eq command (codes "expand")) (file >>= λ file. Some (expand file))
    (cond (pointwise nat_eq command (codes "strips")) (file >>= λ file. Some (strips file))
    (cond (pointwise nat_eq command (codes "cost")) (file >>= λ file. Some (cost file))
    (cond (pointwise nat_eq command (codes "judge")) (two_files files >>= λ both. n >>= λ n. Some (judge both.0 both.1 n)) None))))))))))

asked_is : (command : Text) (files : List Text) (options : List Given)
    → asked command files options ≡ asked_with command files (plain_file files options) (gen_in files options) (options_in options) (only_n options)
asked_is command files options = refl

abbrev pub options_with : Option ℕ → Option ℕ → Option ℕ → Option Modes → Option Shown → Option Options
options_with n seed turns modes shown =
    n >>= λ n. seed >>= λ seed. turns >>= λ turns. modes >>= λ modes. shown >>= λ shown.
    Some (record { n = n; seed = seed; turns = turns; modes = modes; shown = shown })

-- ---- how many options there are

count_more : (key : Key) (given : Given) (options : List Given)
    → length (values_of key (given ∷ options)) ≡ cond (nat_eq (number_of given.key) (number_of key)) 1 0 + length (values_of key options)
count_more key given options = go (nat_eq (number_of given.key) (number_of key)) refl
  where
    go : (b : Bool) → nat_eq (number_of given.key) (number_of key) ≡ b
        → length (values_of key (given ∷ options)) ≡ cond (nat_eq (number_of given.key) (number_of key)) 1 0 + length (values_of key options)
    go true e = rw e (omega arith)
    go false e = rw e (omega arith)

abbrev counted : Key → ℕ → ℕ
counted key n = cond (nat_eq (number_of key) n) 1 0

each_counts : (key : Key) → counted key 0 + (counted key 1 + (counted key 2 + (counted key 3 + counted key 4))) ≡ 1
each_counts N = refl
each_counts Seed = refl
each_counts Turns = refl
each_counts Mode = refl
each_counts Schedule = refl

abbrev pub total : List Given → ℕ
total options =
    length (values_of N options) + (length (values_of Seed options) + (length (values_of Turns options) + (length (values_of Mode options) + length (values_of Schedule options))))

pub all_counted : (options : List Given) → length options ≡ total options
all_counted [] = refl
all_counted (given ∷ options) =
    let rest = all_counted options in
    omega (arith, rest, each_counts given.key, count_more N given options, count_more Seed given options, count_more Turns given options, count_more Mode given options, count_more Schedule given options)

abbrev size : Option Text → ℕ
size None = 0
size (Some value) = 1

size_at : (values : List Text) (o : Option Text) → at_most_one values ≡ Some o → length values ≡ size o
size_at [] None e = refl
size_at [] (Some v) e = absurd cc
size_at (v ∷ []) None e = absurd cc
size_at (v ∷ []) (Some w) e = refl
size_at (v ∷ w ∷ vs) o e = absurd cc

pub only_is : (options : List Given) → only_n options ≡ cond (nat_eq (length options) 1) (n_in options) None
only_is [] = refl
only_is (given ∷ []) = go (nat_eq (number_of given.key) 0) refl
  where
    go : (b : Bool) → nat_eq (number_of given.key) 0 ≡ b → only_n (given ∷ []) ≡ n_in (given ∷ [])
    go true e = rw e refl
    go false e = rw e refl
only_is (given ∷ another ∷ options) =
    let many : nat_eq (length (given ∷ another ∷ options)) 1 ≡ false = ne_eqb (length (given ∷ another ∷ options)) 1 (λ e. omega arith) in
    sym (ap (λ b. cond b (n_in (given ∷ another ∷ options)) None) many)

pub none_is : (options : List Given) → no_options options ≡ nat_eq (length options) 0
none_is [] = refl
none_is (given ∷ options) = sym (ne_eqb (length (given ∷ options)) 0 (λ e. omega arith))

-- ---- each at most once

alone : (values : List Text) → AtMostOne values → at_most_one values ≡ Some (first values)
alone [] one = refl
alone (v ∷ []) one = refl
alone (v ∷ w ∷ vs) one = absurd one

module _ (options : List Given) (once : (key : Key) → AtMostOne (values_of key options)) where
  abbrev sorted : List Given
  sorted =
      listed (first (values_of N options)) (first (values_of Seed options)) (first (values_of Turns options)) (first (values_of Mode options)) (is_there (values_of Schedule options))

  same_n : value_of N sorted ≡ value_of N options
  same_n = value_n _ _ _ _ _ ∙ sym (alone (values_of N options) (once N))

  same_seed : value_of Seed sorted ≡ value_of Seed options
  same_seed = value_seed _ _ _ _ _ ∙ sym (alone (values_of Seed options) (once Seed))

  same_turns : value_of Turns sorted ≡ value_of Turns options
  same_turns = value_turns _ _ _ _ _ ∙ sym (alone (values_of Turns options) (once Turns))

  same_mode : value_of Mode sorted ≡ value_of Mode options
  same_mode = value_mode _ _ _ _ _ ∙ sym (alone (values_of Mode options) (once Mode))

  same_shown : shown_in sorted ≡ shown_in options
  same_shown = ap (λ v. v >>= (λ value. Some (shown_if value))) (value_schedule _ _ _ _ _) ∙ go (values_of Schedule options) (once Schedule)
    where
      go : (values : List Text) → AtMostOne values → Some (shown_if (flag_value (is_there values))) ≡ (at_most_one values >>= λ value. Some (shown_if value))
      go [] one = refl
      go (v ∷ []) one = refl
      go (v ∷ w ∷ vs) one = absurd one

  same_schedule : length (values_of Schedule sorted) ≡ length (values_of Schedule options)
  same_schedule = size_at (values_of Schedule sorted) _ (value_schedule _ _ _ _ _) ∙ go (values_of Schedule options) (once Schedule)
    where
      go : (values : List Text) → AtMostOne values → size (flag_value (is_there values)) ≡ length values
      go [] one = refl
      go (v ∷ []) one = refl
      go (v ∷ w ∷ vs) one = absurd one

  same_size : (key : Key) → value_of key sorted ≡ value_of key options → length (values_of key sorted) ≡ length (values_of key options)
  same_size key e =
      size_at (values_of key sorted) (first (values_of key options)) (e ∙ alone (values_of key options) (once key))
      ∙ sym (size_at (values_of key options) (first (values_of key options)) (alone (values_of key options) (once key)))

  same_length : length sorted ≡ length options
  same_length =
      omega (arith, all_counted sorted, all_counted options, same_size N same_n, same_size Seed same_seed, same_size Turns same_turns, same_size Mode same_mode, same_schedule)

  same_n_in : n_in sorted ≡ n_in options
  same_n_in = ap (λ v. v >>= needed 0 MOST_NUMBER) same_n

  same_options : options_in sorted ≡ options_in options
  same_options = λ i.
      options_with (same_n_in i) (same_seed i >>= number_or 0 0 18446744073709551615) (same_turns i >>= number_or MOST_EVENTS 1 MOST_EVENTS) (same_mode i >>= modes_or) (same_shown i)

  same_none : no_options sorted ≡ no_options options
  same_none = none_is sorted ∙ (ap (λ n. nat_eq n 0) same_length ∙ sym (none_is options))

  same_only : only_n sorted ≡ only_n options
  same_only = only_is sorted ∙ (ap₂ (λ k n. cond (nat_eq k 1) n None) same_length same_n_in ∙ sym (only_is options))

  same_plain : (files : List Text) → plain_file files sorted ≡ plain_file files options
  same_plain files = plain_is files sorted ∙ (ap (λ b. cond b (one_file files) None) same_none ∙ sym (plain_is files options))

  same_gen : (files : List Text) → gen_in files sorted ≡ gen_in files options
  same_gen files = gen_is files sorted ∙ (ap (λ b. cond b (gen_of files) None) same_none ∙ sym (gen_is files options))

  pub sorted_asks : (command : Text) (files : List Text) → asked command files sorted ≡ asked command files options
  sorted_asks command files = λ i. asked_with command files (same_plain files i) (same_gen files i) (same_options i) (same_only i)
