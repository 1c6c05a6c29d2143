-- The options in one order.
use Rattle.std.proofs.Common.{◌≡◌, ℕ, Bool, true, false, not, ◌&&◌, cond, is_some, nat_eq, List, [], ◌∷◌, ◌++◌, Option, Some, None, refl, ap, ◌∙◌}
use Rattle.pb_text.specs.declared.limits.TheConstants.{MOST_EVENTS, MOST_NUMBER}
use Rattle.pb_cli_words.specs.Said.{Given, Key, N, Seed, Turns, Mode, Schedule, number_of}
use Rattle.pb_cli_words.specs.Request.{◌>>=◌, at_most_one, values_of, value_of, needed, number_or, modes_or, shown_if, n_in, seed_in, turns_in, modes_given, shown_in, only_n, one_file, plain_file, gen_in, gen_of}
use Rattle.pb_cli_words.specs.Reader.{listed, with_value, with_flag, no_options, at_most_n}

abbrev Text : Type 0
Text = List ℕ

-- an option of another name
skip : (key other : Key) (v : Option Text) (rest : List Given) → nat_eq (number_of other) (number_of key) ≡ false → values_of key (with_value other v ++ rest) ≡ values_of key rest
skip key other None rest e = refl
skip key other (Some v) rest e = rw e refl

no_flag : (key : Key) (h : Bool) → nat_eq (number_of Schedule) (number_of key) ≡ false → values_of key (with_flag h) ≡ []
no_flag key false e = refl
no_flag key true e = rw e refl

same_key : (key : Key) → nat_eq (number_of key) (number_of key) ≡ true
same_key N = refl
same_key Seed = refl
same_key Turns = refl
same_key Mode = refl
same_key Schedule = refl

here : (key : Key) (v : Option Text) (rest : List Given) → values_of key rest ≡ [] → at_most_one (values_of key (with_value key v ++ rest)) ≡ Some v
here key None rest e = rw e refl
here key (Some v) rest e = rw (same_key key, e) refl

pub value_n : (n s t m : Option Text) (h : Bool) → value_of N (listed n s t m h) ≡ Some n
value_n n s t m h = here N n _ (skip N Seed s _ refl ∙ (skip N Turns t _ refl ∙ (skip N Mode m _ refl ∙ no_flag N h refl)))

pub value_seed : (n s t m : Option Text) (h : Bool) → value_of Seed (listed n s t m h) ≡ Some s
value_seed n s t m h = ap at_most_one (skip Seed N n _ refl) ∙ here Seed s _ (skip Seed Turns t _ refl ∙ (skip Seed Mode m _ refl ∙ no_flag Seed h refl))

pub value_turns : (n s t m : Option Text) (h : Bool) → value_of Turns (listed n s t m h) ≡ Some t
value_turns n s t m h =
    ap at_most_one (skip Turns N n _ refl ∙ skip Turns Seed s _ refl) ∙ here Turns t _ (skip Turns Mode m _ refl ∙ no_flag Turns h refl)

pub value_mode : (n s t m : Option Text) (h : Bool) → value_of Mode (listed n s t m h) ≡ Some m
value_mode n s t m h =
    ap at_most_one (skip Mode N n _ refl ∙ (skip Mode Seed s _ refl ∙ skip Mode Turns t _ refl)) ∙ here Mode m _ (no_flag Mode h refl)

abbrev pub flag_value : Bool → Option Text
flag_value false = None
flag_value true = Some []

pub value_schedule : (n s t m : Option Text) (h : Bool) → value_of Schedule (listed n s t m h) ≡ Some (flag_value h)
value_schedule n s t m h =
    ap at_most_one (skip Schedule N n _ refl ∙ (skip Schedule Seed s _ refl ∙ (skip Schedule Turns t _ refl ∙ skip Schedule Mode m _ refl))) ∙ flag h
  where
    flag : (h : Bool) → at_most_one (values_of Schedule (with_flag h)) ≡ Some (flag_value h)
    flag false = refl
    flag true = refl

pub n_value : (n s t m : Option Text) (h : Bool) → n_in (listed n s t m h) ≡ needed 0 MOST_NUMBER n
n_value n s t m h = ap (λ v. v >>= needed 0 MOST_NUMBER) (value_n n s t m h)

pub seed_value : (n s t m : Option Text) (h : Bool) → seed_in (listed n s t m h) ≡ number_or 0 0 18446744073709551615 s
seed_value n s t m h = ap (λ v. v >>= number_or 0 0 18446744073709551615) (value_seed n s t m h)

pub turns_value : (n s t m : Option Text) (h : Bool) → turns_in (listed n s t m h) ≡ number_or MOST_EVENTS 1 MOST_EVENTS t
turns_value n s t m h = ap (λ v. v >>= number_or MOST_EVENTS 1 MOST_EVENTS) (value_turns n s t m h)

pub mode_value : (n s t m : Option Text) (h : Bool) → modes_given (listed n s t m h) ≡ modes_or m
mode_value n s t m h = ap (λ v. v >>= modes_or) (value_mode n s t m h)

pub schedule_value : (n s t m : Option Text) (h : Bool) → shown_in (listed n s t m h) ≡ Some (shown_if (flag_value h))
schedule_value n s t m h = ap (λ v. v >>= (λ value. Some (shown_if value))) (value_schedule n s t m h)

-- ---- which are there

pub none_there : (n s t m : Option Text) (h : Bool) → no_options (listed n s t m h) ≡ (not (is_some n) && at_most_n s t m h)
none_there (Some n) s t m h = refl
none_there None (Some s) t m h = refl
none_there None None (Some t) m h = refl
none_there None None None (Some m) h = refl
none_there None None None None true = refl
none_there None None None None false = refl

pub only_value : (n s t m : Option Text) (h : Bool) → only_n (listed n s t m h) ≡ needed 0 MOST_NUMBER (cond (at_most_n s t m h) n None)
only_value (Some n) (Some s) t m h = refl
only_value (Some n) None (Some t) m h = refl
only_value (Some n) None None (Some m) h = refl
only_value (Some n) None None None true = refl
only_value (Some n) None None None false = refl
only_value None (Some s) (Some t) m h = refl
only_value None (Some s) None (Some m) h = refl
only_value None (Some s) None None true = refl
only_value None (Some s) None None false = refl
only_value None None (Some t) (Some m) h = refl
only_value None None (Some t) None true = refl
only_value None None (Some t) None false = refl
only_value None None None (Some m) true = refl
only_value None None None (Some m) false = refl
only_value None None None None true = refl
only_value None None None None false = refl

pub plain_is : (files : List Text) (options : List Given) → plain_file files options ≡ cond (no_options options) (one_file files) None
plain_is files [] = refl
plain_is files (given ∷ options) = refl

pub gen_is : (files : List Text) (options : List Given) → gen_in files options ≡ cond (no_options options) (gen_of files) None
gen_is files [] = refl
gen_is files (given ∷ options) = refl
