-- What `clap` answers is what the words ask for.
use Rattle.std.proofs.Common.{◌≡◌, ℕ, inl, inr, Bool, true, false, cond, codes, nat_lt, is_some, List, [], ◌∷◌, ◌++◌, length, map, Option, Some, None, refl, sym, ap, ap₂, ◌∙◌, subst, arith, fold, append-nil, append_assoc}
use Rattle.std.proofs.lemmas.Bool.{true≢false, le-ltb, lt-ltb}
use Rattle.std.proofs.lemmas.List.{length-append}
use Rattle.std.proofs.lemmas.Str.{IsUtf8-string_bytes}
use Rattle.std.specs.Str.{bytes_eq, IsUtf8}
use Rattle.std.specs.Prelude.{String}
use Rattle.std.specs.String.{string_bytes}
use Rattle.clap.specs.Words.{App, Kinds, Row, Text, fault_of, matches_of}
use Rattle.clap.specs.Walk.{Waiting, Walk, idle, option, arg_by_long, finished, nothing_held, rows_after, settled, used, with_default, walk_from, walked}
use Rattle.clap.specs.Simple.{entered, names_of}
use Rattle.clap.specs.Kinds.{or_else}
use Rattle.clap.specs.Faults.{built_fault, check_fault, entered_fault, settle_fault, use_fault, walk_fault}
use Rattle.clap.specs.declared.error.kind.ErrorKind.{ErrorKind}
use Rattle.clap.specs.declared.error.kind.ErrorKind.TheVariants as kind
use Rattle.pb_cli_words.specs.Said as S
use Rattle.pb_cli_words.specs.Said.{Given, Key, N, Seed, Turns, Mode, Schedule, Said, alone, of_shape, said, said_behind, nothing_behind, shape_of, takes_value, begins_with_dash, with_joined, with_option, with_word}
use Rattle.pb_cli_words.specs.Request.{◌>>=◌, Request, request, request_by, values_of}
use Rattle.pb_cli_words.specs.Reader.{IsFlag, asked_by, asked_for, behind_of, listed, matched, matched_if, reader_app}
use Rattle.pb_cli_words.proofs.Rules.{top, rules, text_rule, flag_rule, id_of, rule_by, by_key, by_long, built_is, command_by_id, files_by_id}
use Rattle.pb_cli_words.proofs.Classes.{IsPlain, IsLong, Class, plain, bar, long, unknown, short, classify}
use Rattle.pb_cli_words.proofs.Steps.{Pending, at, base, fault, IsQuiet, value_next, value_turn, place, taker, behind, after_word, turn, or_else_nil, plain_next, plain_turn, trailing_next, trailing_turn, bar_next, bar_turn, alone_next, alone_turn, joined_next, joined_turn, flag_next, flag_turn, flag_refused, unknown_refused, short_refused}
use Rattle.pb_cli_words.proofs.Held.{AtMostOne, Holds, says, nothing_held as holds_nothing, more_word, word_fits, more_option, option_fits, option_again, finished_is, no_default_fault, use_values, first, others, is_there, gave, values_more, same_key}
use Rattle.pb_cli_words.proofs.Sorted.{sorted_asks}
use Rattle.pb_cli_words.proofs.Spoilt.{IsSpoilt, requests_nothing, stays}

-- ---- what a walk answers

-- the kinds of error from here on, up to the last use
abbrev tail_fault : Walk → List Text → Kinds
tail_fault w words = or_else (walk_fault top [] w words) (settle_fault rules false (fold (walked rules []) w words).held)

abbrev end_rows : Walk → List Text → List Row
end_rows w words = finished rules (fold (walked rules []) w words).held

abbrev Answers : Kinds → List Row → ℕ → Option Request → Type 0
Answers [] rows behind r = (schedule : Bool) × IsFlag rows schedule × (asked_by rows schedule behind ≡ r)
Answers (k ∷ ks) rows behind r = None ≡ r

abbrev Gives : Walk → List Text → ℕ → Option Request → Type 0
Gives w words behind r = Answers (tail_fault w words) (end_rows w words) behind r

or_else_assoc : (a b c : Kinds) → or_else (or_else a b) c ≡ or_else a (or_else b c)
or_else_assoc [] b c = refl
or_else_assoc (k ∷ ks) b c = refl

tail_step : (w : Walk) (word : Text) (words : List Text) → tail_fault w (word ∷ words) ≡ or_else (turn w word) (tail_fault (walked rules [] w word) words)
unfolding walk_fault
tail_step w word words = or_else_assoc (turn w word) (walk_fault top [] (walked rules [] w word) words) _

tail_end : (w : Walk) → tail_fault w [] ≡ settle_fault rules false w.held
unfolding walk_fault
tail_end w = refl

goes : (w v : Walk) (word : Text) (words : List Text) (b : ℕ) (r : Option Request) → turn w word ≡ [] → walked rules [] w word ≡ v → Gives v words b r → Gives w (word ∷ words) b r
goes w v word words b r none next g =
    subst (λ k. Answers k (end_rows (walked rules [] w word) words) b r)
    (sym (tail_step w word words ∙ ap (λ k. or_else k (tail_fault (walked rules [] w word) words)) none)) (subst (λ x. Gives x words b r) (sym next) g)

fails : (w : Walk) (word : Text) (words : List Text) (b : ℕ) (r : Option Request) (k : ErrorKind) (ks : Kinds) → turn w word ≡ k ∷ ks → None ≡ r → Gives w (word ∷ words) b r
fails w word words b r k ks some e =
    subst (λ k. Answers k (end_rows (walked rules [] w word) words) b r)
    (sym (tail_step w word words ∙ ap (λ k. or_else k (tail_fault (walked rules [] w word) words)) some)) e

ends_badly : (w : Walk) (b : ℕ) (r : Option Request) (k : ErrorKind) (ks : Kinds) → settle_fault rules false w.held ≡ k ∷ ks → None ≡ r → Gives w [] b r
ends_badly w b r k ks some e = subst (λ k. Answers k (end_rows w []) b r) (sym (tail_end w ∙ some)) e

-- ---- an option, whatever comes

found_key : (key : Key) → takes_value key ≡ true → rule_by key ≡ text_rule (id_of key)
found_key N e = refl
found_key Seed e = refl
found_key Turns e = refl
found_key Mode e = refl
found_key Schedule e = absurd (true≢false (sym e))

found_flag : (key : Key) → takes_value key ≡ false → rule_by key ≡ flag_rule
found_flag N e = absurd (true≢false e)
found_flag Seed e = absurd (true≢false e)
found_flag Turns e = absurd (true≢false e)
found_flag Mode e = absurd (true≢false e)
found_flag Schedule e = refl

named_long : (key : Key) → arg_by_long rules (id_of key) ≡ Some (rule_by key)
named_long N = by_long (codes "n")
named_long Seed = by_long (codes "seed")
named_long Turns = by_long (codes "turns")
named_long Mode = by_long (codes "mode")
named_long Schedule = by_long (codes "schedule")

abbrev EachIsUtf8 : List Text → Type 0
EachIsUtf8 [] = Unit {0}
EachIsUtf8 (word ∷ words) = IsUtf8 word × EachIsUtf8 words

-- ---- where a use failed before, all fails

module _ (rows : List Row) (pending : Pending) (k : ErrorKind) (ks : Kinds) (failed : fault rows pending ≡ k ∷ ks) (b : ℕ) (r : Option Request) (none : None ≡ r) where
  failed_first : (a : Kinds) → or_else (fault rows pending) a ≡ k ∷ ks
  failed_first a = ap (λ f. or_else f a) failed

  failed_trailing : (waiting : Waiting) (before words : List Text) → Gives (at rows pending waiting (place before) true) words b r
  failed_trailing waiting before [] = ends_badly (at rows pending waiting (place before) true) b r k ks failed none
  failed_trailing waiting before (word ∷ words) =
      fails (at rows pending waiting (place before) true) word words b r k ks (trailing_turn rows pending waiting before word ∙ failed) none

  failed_long : (waiting : Waiting) (position : ℕ) (word : Text) (words : List Text) (key : Key) (v : Option Text) → IsLong word (id_of key) v
      → Gives (at rows pending waiting position false) (word ∷ words) b r
  failed_long waiting position word words key (Some v) is = go (takes_value key) refl
    where
      go : (t : Bool) → takes_value key ≡ t → Gives (at rows pending waiting position false) (word ∷ words) b r
      go true e =
          fails (at rows pending waiting position false) word words b r k ks
          (joined_turn rows pending waiting position word (id_of key) (named_long key ∙ ap Some (found_key key e)) v is ∙ failed_first _) none
      go false e =
          fails (at rows pending waiting position false) word words b r kind.TooManyValues []
          (flag_refused rows pending waiting position word (id_of key) (named_long key ∙ ap Some (found_flag key e)) v is) none
  failed_long waiting position word words key None is = go (takes_value key) refl
    where
      go : (t : Bool) → takes_value key ≡ t → Gives (at rows pending waiting position false) (word ∷ words) b r
      go true e =
          fails (at rows pending waiting position false) word words b r k ks
          (alone_turn rows pending waiting position word (id_of key) (named_long key ∙ ap Some (found_key key e)) is ∙ failed) none
      go false e =
          fails (at rows pending waiting position false) word words b r k ks
          (flag_turn rows pending waiting position word (id_of key) (named_long key ∙ ap Some (found_flag key e)) is ∙ failed_first _) none

  all_fails : (waiting : Waiting) (before words : List Text) → IsQuiet waiting → EachIsUtf8 words → Gives (at rows pending waiting (place before) false) words b r
  all_fails waiting before [] quiet utf8 = ends_badly (at rows pending waiting (place before) false) b r k ks failed none
  all_fails waiting before (word ∷ words) quiet utf8 = go (classify word utf8.0)
    where
      go : Class word → Gives (at rows pending waiting (place before) false) (word ∷ words) b r
      go (plain is shape dash) = fails (at rows pending waiting (place before) false) word words b r k ks (plain_turn rows pending waiting before word quiet is ∙ failed) none
      go (bar is) =
          subst (λ w. Gives (at rows pending waiting (place before) false) (w ∷ words) b r) (sym is)
          (goes (at rows pending waiting (place before) false) (at rows pending waiting (place before) true) (codes "--") words b r (bar_turn rows pending waiting (place before))
          (bar_next rows pending waiting (place before)) (failed_trailing waiting before words))
      go (long key v is shape dash) = failed_long waiting (place before) word words key v is
      go (unknown name v is found shape dash) =
          fails (at rows pending waiting (place before) false) word words b r kind.UnknownArgument [] (unknown_refused rows pending waiting (place before) word name v is found) none
      go (short c cs is shape dash) =
          fails (at rows pending waiting (place before) false) word words b r kind.UnknownArgument [] (short_refused rows pending waiting (place before) word c cs is) none

-- ---- behind what was read

abbrev from : List Text → List Given → Option Said → Option Request
from words options None = None
from words options (Some s) = request_by (words ++ s.words) s.behind (options ++ s.options)

from_option : (words : List Text) (options : List Given) (key : Key) (value : Text) (s : Option Said) → from words options (with_option key value s) ≡ from words (options ++ gave key value) s
from_option words options key value None = refl
from_option words options key value (Some s) = ap (request_by (words ++ s.words) s.behind) (sym (append_assoc options (gave key value) s.options))

from_word : (words : List Text) (options : List Given) (word : Text) (s : Option Said) → from words options (with_word word s) ≡ from (words ++ word ∷ []) options s
from_word words options word None = refl
from_word words options word (Some s) = ap (λ w. request_by w s.behind (options ++ s.options)) (sym (append_assoc words (word ∷ []) s.words))

spoilt_from : (key : Key) (words : List Text) (options : List Given) (s : Option Said) → IsSpoilt key (values_of key options) → None ≡ from words options s
spoilt_from key words options None spoilt = refl
spoilt_from key words options (Some s) spoilt = sym (requests_nothing key (words ++ s.words) s.behind (options ++ s.options) (stays key options s.options spoilt))

-- a second value, and the value `-`
again_spoilt : (key : Key) (options : List Given) (value v : Text) (vs : List Text) → values_of key options ≡ v ∷ vs → IsSpoilt key (values_of key (options ++ gave key value))
again_spoilt key options value v vs some = inl (subst (λ l. AtMostOne l → ⊥) (sym (values_more key key value options true (same_key key) ∙ ap (λ l. l ++ value ∷ []) some)) (two vs))
  where
    two : (vs : List Text) → AtMostOne (v ∷ (vs ++ value ∷ [])) → ⊥
    two [] h = h
    two (w ∷ ws) h = h

dash_spoilt : (key : Key) (options : List Given) (value : Text) → takes_value key ≡ true → value ≡ codes "-" → IsSpoilt key (values_of key (options ++ gave key value))
dash_spoilt key options value takes dash = go (values_of key options) refl
  where
    go : (vs : List Text) → values_of key options ≡ vs → IsSpoilt key (values_of key (options ++ gave key value))
    go [] e = inr (takes, values_more key key value options true (same_key key) ∙ ap₂ (λ l w. l ++ w ∷ []) e dash)
    go (v ∷ vs) e = again_spoilt key options value v vs e

-- ---- the end

concluded : (words behind : List Text) (options : List Given) → ((key : Key) → AtMostOne (values_of key options))
    → asked_for (first (words ++ behind)) (others (words ++ behind))
    (listed (first (values_of N options)) (first (values_of Seed options)) (first (values_of Turns options)) (first (values_of Mode options)) (is_there (values_of Schedule options)))
    (length behind) ≡ request_by words behind options
concluded [] [] options once = refl
concluded [] (d ∷ ds) options once = let fewer : nat_lt (length ds) (length (d ∷ ds)) ≡ true = lt-ltb (length ds) (length (d ∷ ds)) (omega arith) in rw fewer refl
concluded (c ∷ fs) behind options once =
    let enough : nat_lt (length (fs ++ behind)) (length behind) ≡ false = le-ltb (length (fs ++ behind)) (length behind) (omega (arith, length-append fs behind)) in
    rw enough (sorted_asks options once c (fs ++ behind))

at_end : (rows : List Row) (pending : Pending) (waiting : Waiting) (position : ℕ) (trailing : Bool) (words behind : List Text) (options : List Given) → fault rows pending ≡ []
    → Holds (base rows pending) (words ++ behind) options → Gives (at rows pending waiting position trailing) [] (length behind) (request_by words behind options)
at_end rows pending waiting position trailing words behind options none h =
    let w = at rows pending waiting position trailing in
    let s = says (base rows pending) (words ++ behind) options h in
    let asks : asked_by (with_default (base rows pending) flag_rule) (is_there (values_of Schedule options)) (length behind) ≡ request_by words behind options =
    (λ i. asked_for (s.command i) (s.files i) (listed (s.n i) (s.seed i) (s.turns i) (s.mode i) (is_there (values_of Schedule options))) (length behind)) ∙ concluded words behind options h.once in
    subst (λ k. Answers k (end_rows w []) (length behind) (request_by words behind options)) (sym (tail_end w ∙ none))
    (subst (λ r. Answers [] r (length behind) (request_by words behind options)) (sym (finished_is rows pending)) (is_there (values_of Schedule options), s.flag, asks))

-- ---- a word more

place_more : (words : List Text) (word : Text) → place (words ++ word ∷ []) ≡ 2
place_more [] word = refl
place_more (w ∷ ws) word = refl

quiet_behind : (words : List Text) → IsQuiet (behind words)
quiet_behind [] = tt
quiet_behind (w ∷ ws) = tt

word_base : (rows : List Row) (words : List Text) (word : Text) → used (taker words) (word ∷ []) rows ≡ base rows (Some ((taker words).id, word ∷ []))
word_base rows [] word = rw command_by_id refl
word_base rows (w ∷ ws) word = rw files_by_id refl

word_fault_is : (rows : List Row) (words : List Text) (word : Text) → fault rows (Some ((taker words).id, word ∷ [])) ≡ use_fault false (taker words) (word ∷ []) rows
word_fault_is rows [] word = rw command_by_id refl
word_fault_is rows (w ∷ ws) word = rw files_by_id refl

word_holds : (rows : List Row) (words : List Text) (options : List Given) (word : Text) → Holds rows words options
    → Holds (base rows (Some ((taker words).id, word ∷ []))) (words ++ word ∷ []) options
word_holds rows words options word h = subst (λ r. Holds r (words ++ word ∷ []) options) (word_base rows words word) (more_word rows words options word h)

-- ---- behind `--`

trailing : (rest : List Text) (rows : List Row) (pending : Pending) (waiting : Waiting) (words done : List Text) (options : List Given) → fault rows pending ≡ []
    → Holds (base rows pending) (words ++ done) options
    → Gives (at rows pending waiting (place (words ++ done)) true) rest (length (done ++ rest)) (request_by words (done ++ rest) options)
trailing [] rows pending waiting words done options none h =
    subst (λ b. Gives (at rows pending waiting (place (words ++ done)) true) [] (length b) (request_by words b options)) (sym (append-nil done))
    (at_end rows pending waiting (place (words ++ done)) true words done options none h)
trailing (word ∷ rest) rows pending waiting words done options none h =
    let all = words ++ done in
    let holds : Holds (base (base rows pending) (Some ((taker all).id, word ∷ []))) (words ++ (done ++ word ∷ [])) options =
    subst (λ l. Holds (base (base rows pending) (Some ((taker all).id, word ∷ []))) l options) (append_assoc words done (word ∷ [])) (word_holds (base rows pending) all options word h) in
    let places : place (words ++ (done ++ word ∷ [])) ≡ 2 = ap place (sym (append_assoc words done (word ∷ []))) ∙ place_more all word in
    let rest_is : (done ++ word ∷ []) ++ rest ≡ done ++ word ∷ rest = append_assoc done (word ∷ []) rest in
    let ahead = trailing rest (base rows pending) (Some ((taker all).id, word ∷ [])) (behind all) words (done ++ word ∷ []) options
    (word_fault_is (base rows pending) all word ∙ word_fits (base rows pending) all options word h) holds in
    let here : Gives (after_word rows pending all word true) rest (length (done ++ word ∷ rest)) (request_by words (done ++ word ∷ rest) options) =
    subst (λ d. Gives (after_word rows pending all word true) rest (length d) (request_by words d options)) rest_is
    (subst (λ p. Gives (at (base rows pending) (Some ((taker all).id, word ∷ [])) (behind all) p true) rest (length ((done ++ word ∷ []) ++ rest)) (request_by words ((done ++ word ∷ []) ++ rest) options)) places ahead) in
    goes (at rows pending waiting (place all) true) (after_word rows pending all word true) word rest (length (done ++ word ∷ rest)) (request_by words (done ++ word ∷ rest) options)
    (trailing_turn rows pending waiting all word ∙ none) (trailing_next rows pending waiting all word) here

-- ---- in front of it

abbrev Quietly : List Text → Type 0
Quietly rest = (rows : List Row) (pending : Pending) (waiting : Waiting) (words : List Text) (options : List Given) → IsQuiet waiting → fault rows pending ≡ []
    → Holds (base rows pending) words options → Gives (at rows pending waiting (place words) false) rest (behind_of rest) (from words options (said_behind None rest))

abbrev Wanting : List Text → Type 0
Wanting rest = (rows : List Row) (words : List Text) (options : List Given) (key : Key) → takes_value key ≡ true → Holds rows words options
    → Gives (at rows (Some (id_of key, [])) (option (id_of key)) (place words) false) rest (behind_of rest) (from words options (said_behind (Some key) rest))

-- an option and its value are taken
gives_option : (rest : List Text) (rows : List Row) (words : List Text) (options : List Given) (key : Key) (value : Text) (w : Walk) (word : Text) → Holds rows words options → Quietly rest
    → turn w word ≡ use_fault false (rule_by key) (use_values key value) rows → walked rules [] w word ≡ at (used (rule_by key) (use_values key value) rows) None idle (place words) false
    → Gives w (word ∷ rest) (behind_of rest) (from words options (with_option key value (said_behind None rest)))
gives_option rest rows words options key value w word h ahead faults next =
    subst (Gives w (word ∷ rest) (behind_of rest)) (sym (from_option words options key value (said_behind None rest))) (go (values_of key options) refl)
  where
    go : (vs : List Text) → values_of key options ≡ vs → Gives w (word ∷ rest) (behind_of rest) (from words (options ++ gave key value) (said_behind None rest))
    go [] e =
        goes w (at (used (rule_by key) (use_values key value) rows) None idle (place words) false) word rest (behind_of rest) _ (faults ∙ option_fits rows words options key value h e) next
        (ahead (used (rule_by key) (use_values key value) rows) None idle words (options ++ gave key value) tt refl (more_option rows words options key value h e))
    go (v ∷ vs) e =
        fails w word rest (behind_of rest) _ kind.ArgumentConflict [] (faults ∙ option_again rows words options key value h v vs e)
        (spoilt_from key words (options ++ gave key value) (said_behind None rest) (again_spoilt key options value v vs e))

valued_use : (key : Key) (value : Text) → takes_value key ≡ true → use_values key value ≡ value ∷ []
valued_use N value e = refl
valued_use Seed value e = refl
valued_use Turns value e = refl
valued_use Mode value e = refl
valued_use Schedule value e = absurd (true≢false (sym e))

flag_use : (key : Key) (value : Text) → takes_value key ≡ false → use_values key value ≡ []
flag_use N value e = absurd (true≢false e)
flag_use Seed value e = absurd (true≢false e)
flag_use Turns value e = absurd (true≢false e)
flag_use Mode value e = absurd (true≢false e)
flag_use Schedule value e = refl

not_bar : (word : Text) (rest : List Text) → bytes_eq word (codes "--") ≡ false → behind_of rest ≡ behind_of (word ∷ rest)
not_bar word rest e = sym (ap (λ b. cond b (length rest) (behind_of rest)) e)

shape_says : (word : Text) (rest : List Text) (shape : S.Shape) → shape_of word ≡ shape
    → of_shape shape word rest (λ key. said_behind (Some key) rest) (said_behind None rest) ≡ said_behind None (word ∷ rest)
shape_says word rest shape e = sym (ap (λ s. of_shape s word rest (λ key. said_behind (Some key) rest) (said_behind None rest)) e)

module _ (word : Text) (rest : List Text) (ahead : Quietly rest) (wanted : Wanting rest) (rows : List Row) (pending : Pending) (waiting : Waiting) (words : List Text) (options : List Given) (quiet : IsQuiet waiting) (none : fault rows pending ≡ []) (h : Holds (base rows pending) words options) where
  abbrev stand : Walk
  stand = at rows pending waiting (place words) false

  -- by the shape of the word, and where no `--` is met
  by_shape : (shape : S.Shape) → shape_of word ≡ shape → bytes_eq word (codes "--") ≡ false
      → Gives stand (word ∷ rest) (behind_of rest) (from words options (of_shape shape word rest (λ key. said_behind (Some key) rest) (said_behind None rest)))
      → Gives stand (word ∷ rest) (behind_of (word ∷ rest)) (from words options (said_behind None (word ∷ rest)))
  by_shape shape e apart g =
      subst (λ s. Gives stand (word ∷ rest) (behind_of (word ∷ rest)) (from words options s)) (shape_says word rest shape e)
      (subst (λ b. Gives stand (word ∷ rest) b (from words options (of_shape shape word rest (λ key. said_behind (Some key) rest) (said_behind None rest)))) (not_bar word rest apart) g)

  quiet_plain : IsPlain word → Gives stand (word ∷ rest) (behind_of rest) (from words options (with_word word (said_behind None rest)))
  quiet_plain is =
      let next = ahead (base rows pending) (Some ((taker words).id, word ∷ [])) (behind words) (words ++ word ∷ []) options (quiet_behind words)
      (word_fault_is (base rows pending) words word ∙ word_fits (base rows pending) words options word h) (word_holds (base rows pending) words options word h) in
      subst (Gives stand (word ∷ rest) (behind_of rest)) (sym (from_word words options word (said_behind None rest)))
      (goes stand (after_word rows pending words word false) word rest (behind_of rest) _ (plain_turn rows pending waiting words word quiet is ∙ none) (plain_next rows pending waiting words word quiet is)
      (subst (λ p. Gives (at (base rows pending) (Some ((taker words).id, word ∷ [])) (behind words) p false) rest (behind_of rest) (from (words ++ word ∷ []) options (said_behind None rest))) (place_more words word) next))

  quiet_joined : (key : Key) (v : Text) → IsLong word (id_of key) (Some v) → Gives stand (word ∷ rest) (behind_of rest) (from words options (with_joined key v (said_behind None rest)))
  quiet_joined key v is = go (takes_value key) refl
    where
      go : (t : Bool) → takes_value key ≡ t → Gives stand (word ∷ rest) (behind_of rest) (from words options (cond (takes_value key) (with_option key v (said_behind None rest)) None))
      go true e =
          let found = named_long key ∙ ap Some (found_key key e) in
          let faults : turn stand word ≡ use_fault false (rule_by key) (use_values key v) (base rows pending) =
          joined_turn rows pending waiting (place words) word (id_of key) found v is
          ∙ (ap (λ f. or_else f (use_fault false (text_rule (id_of key)) (v ∷ []) (base rows pending))) none
          ∙ ap₂ (λ a l. use_fault false a l (base rows pending)) (sym (found_key key e)) (sym (valued_use key v e))) in
          let next : walked rules [] stand word ≡ at (used (rule_by key) (use_values key v) (base rows pending)) None idle (place words) false =
          joined_next rows pending waiting (place words) word (id_of key) found v is
          ∙ ap₂ (λ a l. at (used a l (base rows pending)) None idle (place words) false) (sym (found_key key e)) (sym (valued_use key v e)) in
          subst (λ t. Gives stand (word ∷ rest) (behind_of rest) (from words options (cond t (with_option key v (said_behind None rest)) None))) (sym e)
          (gives_option rest (base rows pending) words options key v stand word h ahead faults next)
      go false e =
          subst (λ t. Gives stand (word ∷ rest) (behind_of rest) (from words options (cond t (with_option key v (said_behind None rest)) None))) (sym e)
          (fails stand word rest (behind_of rest) None kind.TooManyValues [] (flag_refused rows pending waiting (place words) word (id_of key) (named_long key ∙ ap Some (found_flag key e)) v is) refl)

  quiet_alone : (key : Key) → IsLong word (id_of key) None
      → Gives stand (word ∷ rest) (behind_of rest) (from words options (alone key (said_behind (Some key) rest) (said_behind None rest)))
  quiet_alone key is = go (takes_value key) refl
    where
      go : (t : Bool) → takes_value key ≡ t
          → Gives stand (word ∷ rest) (behind_of rest) (from words options (cond (takes_value key) (said_behind (Some key) rest) (with_option key [] (said_behind None rest))))
      go true e =
          let found = named_long key ∙ ap Some (found_key key e) in
          subst (λ t. Gives stand (word ∷ rest) (behind_of rest) (from words options (cond t (said_behind (Some key) rest) (with_option key [] (said_behind None rest))))) (sym e)
          (goes stand (at (base rows pending) (Some (id_of key, [])) (option (id_of key)) (place words) false) word rest (behind_of rest) _
          (alone_turn rows pending waiting (place words) word (id_of key) found is ∙ none) (alone_next rows pending waiting (place words) word (id_of key) found is)
          (wanted (base rows pending) words options key e h))
      go false e =
          let found = named_long key ∙ ap Some (found_flag key e) in
          let faults : turn stand word ≡ use_fault false (rule_by key) (use_values key []) (base rows pending) =
          flag_turn rows pending waiting (place words) word (id_of key) found is
          ∙ (ap (λ f. or_else f (use_fault false flag_rule [] (base rows pending))) none
          ∙ ap₂ (λ a l. use_fault false a l (base rows pending)) (sym (found_flag key e)) (sym (flag_use key [] e))) in
          let next : walked rules [] stand word ≡ at (used (rule_by key) (use_values key []) (base rows pending)) None idle (place words) false =
          flag_next rows pending waiting (place words) word (id_of key) found is
          ∙ ap₂ (λ a l. at (used a l (base rows pending)) None idle (place words) false) (sym (found_flag key e)) (sym (flag_use key [] e)) in
          subst (λ t. Gives stand (word ∷ rest) (behind_of rest) (from words options (cond t (said_behind (Some key) rest) (with_option key [] (said_behind None rest))))) (sym e)
          (gives_option rest (base rows pending) words options key [] stand word h ahead faults next)

  quiet_bar : word ≡ codes "--" → Gives stand (word ∷ rest) (behind_of (word ∷ rest)) (from words options (said_behind None (word ∷ rest)))
  quiet_bar is =
      let holds : Holds (base rows pending) (words ++ []) options = subst (λ l. Holds (base rows pending) l options) (sym (append-nil words)) h in
      let after : Gives (at rows pending waiting (place words) true) rest (length rest) (request_by words rest options) =
      subst (λ l. Gives (at rows pending waiting (place l) true) rest (length rest) (request_by words rest options)) (append-nil words) (trailing rest rows pending waiting words [] options none holds) in
      let same : request_by words rest options ≡ request_by (words ++ []) rest (options ++ []) = ap₂ (λ w o. request_by w rest o) (sym (append-nil words)) (sym (append-nil options)) in
      subst (λ w. Gives stand (w ∷ rest) (behind_of (w ∷ rest)) (from words options (said_behind None (w ∷ rest)))) (sym is)
      (goes stand (at rows pending waiting (place words) true) (codes "--") rest (length rest) _ (bar_turn rows pending waiting (place words)) (bar_next rows pending waiting (place words))
      (subst (Gives (at rows pending waiting (place words) true) rest (length rest)) same after))

  quiet_word : Class word → Gives stand (word ∷ rest) (behind_of (word ∷ rest)) (from words options (said_behind None (word ∷ rest)))
  quiet_word (plain is shape dash) = by_shape S.ordinary shape is.bar (quiet_plain is)
  quiet_word (bar is) = quiet_bar is
  quiet_word (long key (Some v) is shape dash) = by_shape (S.joined key v) shape is.bar (quiet_joined key v is)
  quiet_word (long key None is shape dash) = by_shape (S.option key) shape is.bar (quiet_alone key is)
  quiet_word (unknown name v is found shape dash) =
      by_shape S.strange shape is.bar (fails stand word rest (behind_of rest) None kind.UnknownArgument [] (unknown_refused rows pending waiting (place words) word name v is found) refl)
  quiet_word (short c cs is shape dash) =
      by_shape S.strange shape is.bar (fails stand word rest (behind_of rest) None kind.UnknownArgument [] (short_refused rows pending waiting (place words) word c cs is) refl)

-- ---- behind an option that wants a value

missing_value : (key : Key) (rows : List Row) → takes_value key ≡ true → fault rows (Some (id_of key, [])) ≡ kind.InvalidValue ∷ []
missing_value N rows e = rw (by_key N) refl
missing_value Seed rows e = rw (by_key Seed) refl
missing_value Turns rows e = rw (by_key Turns) refl
missing_value Mode rows e = rw (by_key Mode) refl
missing_value Schedule rows e = absurd (true≢false (sym e))

value_base : (key : Key) (rows : List Row) (value : Text) → takes_value key ≡ true → used (rule_by key) (use_values key value) rows ≡ base rows (Some (id_of key, value ∷ []))
value_base N rows value e = rw (by_key N) refl
value_base Seed rows value e = rw (by_key Seed) refl
value_base Turns rows value e = rw (by_key Turns) refl
value_base Mode rows value e = rw (by_key Mode) refl
value_base Schedule rows value e = absurd (true≢false (sym e))

value_fault_is : (key : Key) (rows : List Row) (value : Text) → takes_value key ≡ true
    → fault rows (Some (id_of key, value ∷ [])) ≡ use_fault false (rule_by key) (use_values key value) rows
value_fault_is N rows value e = rw (by_key N) refl
value_fault_is Seed rows value e = rw (by_key Seed) refl
value_fault_is Turns rows value e = rw (by_key Turns) refl
value_fault_is Mode rows value e = rw (by_key Mode) refl
value_fault_is Schedule rows value e = absurd (true≢false (sym e))

module _ (word : Text) (rest : List Text) (utf8 : EachIsUtf8 rest) (ahead : Quietly rest) (rows : List Row) (words : List Text) (options : List Given) (key : Key) (takes : takes_value key ≡ true) (h : Holds rows words options) where
  abbrev wants : Walk
  wants = at rows (Some (id_of key, [])) (option (id_of key)) (place words) false

  abbrev given_value : Option Said → Option Said
  given_value s = cond (begins_with_dash word) None (with_option key word s)

  -- a word that begins with `-` is no value
  wanting_dash : begins_with_dash word ≡ true → bytes_eq word (codes "--") ≡ false → Gives wants (word ∷ rest) (behind_of rest) None
      → Gives wants (word ∷ rest) (behind_of (word ∷ rest)) (from words options (given_value (said_behind None rest)))
  wanting_dash dash apart g =
      subst (λ b. Gives wants (word ∷ rest) (behind_of (word ∷ rest)) (from words options (cond b None (with_option key word (said_behind None rest))))) (sym dash)
      (subst (λ b. Gives wants (word ∷ rest) b None) (not_bar word rest apart) g)

  wanting_bar : word ≡ codes "--" → Gives wants (word ∷ rest) (behind_of (word ∷ rest)) (from words options (given_value (said_behind None rest)))
  wanting_bar is =
      subst (λ w. Gives wants (w ∷ rest) (behind_of (w ∷ rest)) (from words options (cond (begins_with_dash w) None (with_option key w (said_behind None rest))))) (sym is)
      (goes wants (at rows (Some (id_of key, [])) (option (id_of key)) (place words) true) (codes "--") rest (length rest) None (bar_turn rows (Some (id_of key, [])) (option (id_of key)) (place words))
      (bar_next rows (Some (id_of key, [])) (option (id_of key)) (place words))
      (failed_trailing rows (Some (id_of key, [])) kind.InvalidValue [] (missing_value key rows takes) (length rest) None refl (option (id_of key)) words rest))

  -- the value is taken
  value_given : IsPlain word → Gives wants (word ∷ rest) (behind_of rest) (from words (options ++ gave key word) (said_behind None rest))
  value_given is = goes wants (at rows (Some (id_of key, word ∷ [])) idle (place words) false) word rest (behind_of rest) _ (value_turn rows key takes (place words) word is) (value_next rows key takes (place words) word is) (go (values_of key options) refl)
    where
      go : (vs : List Text) → values_of key options ≡ vs
          → Gives (at rows (Some (id_of key, word ∷ [])) idle (place words) false) rest (behind_of rest) (from words (options ++ gave key word) (said_behind None rest))
      go [] e =
          ahead rows (Some (id_of key, word ∷ [])) idle words (options ++ gave key word) tt (value_fault_is key rows word takes ∙ option_fits rows words options key word h e)
          (subst (λ r. Holds r words (options ++ gave key word)) (value_base key rows word takes) (more_option rows words options key word h e))
      go (v ∷ vs) e =
          all_fails rows (Some (id_of key, word ∷ [])) kind.ArgumentConflict [] (value_fault_is key rows word takes ∙ option_again rows words options key word h v vs e) (behind_of rest) _
          (spoilt_from key words (options ++ gave key word) (said_behind None rest) (again_spoilt key options word v vs e)) idle words rest tt utf8

  wanting_plain : IsPlain word → (begins_with_dash word ≡ true → word ≡ codes "-")
      → Gives wants (word ∷ rest) (behind_of (word ∷ rest)) (from words options (given_value (said_behind None rest)))
  wanting_plain is lone =
      subst (λ b. Gives wants (word ∷ rest) b (from words options (given_value (said_behind None rest)))) (not_bar word rest is.bar)
      (subst (Gives wants (word ∷ rest) (behind_of rest)) (sym (go (begins_with_dash word) refl)) (value_given is))
    where
      go : (b : Bool) → begins_with_dash word ≡ b → from words options (given_value (said_behind None rest)) ≡ from words (options ++ gave key word) (said_behind None rest)
      go true e =
          ap (λ b. from words options (cond b None (with_option key word (said_behind None rest)))) e
          ∙ spoilt_from key words (options ++ gave key word) (said_behind None rest) (dash_spoilt key options word takes (lone e))
      go false e = ap (λ b. from words options (cond b None (with_option key word (said_behind None rest)))) e ∙ from_option words options key word (said_behind None rest)

  wanting_word : Class word → Gives wants (word ∷ rest) (behind_of (word ∷ rest)) (from words options (given_value (said_behind None rest)))
  wanting_word (plain is shape lone) = wanting_plain is lone
  wanting_word (bar is) = wanting_bar is
  wanting_word (long name v is shape dash) =
      wanting_dash dash is.bar
      (failed_long rows (Some (id_of key, [])) kind.InvalidValue [] (missing_value key rows takes) (behind_of rest) None refl (option (id_of key)) (place words) word rest name v is)
  wanting_word (unknown name v is found shape dash) =
      wanting_dash dash is.bar (fails wants word rest (behind_of rest) None kind.UnknownArgument [] (unknown_refused rows (Some (id_of key, [])) (option (id_of key)) (place words) word name v is found) refl)
  wanting_word (short c cs is shape dash) =
      wanting_dash dash is.bar (fails wants word rest (behind_of rest) None kind.UnknownArgument [] (short_refused rows (Some (id_of key, [])) (option (id_of key)) (place words) word c cs is) refl)

-- ---- all words

quiet_end : Quietly []
quiet_end rows pending waiting words options quiet none h =
    let holds : Holds (base rows pending) (words ++ []) options = subst (λ l. Holds (base rows pending) l options) (sym (append-nil words)) h in
    subst (Gives (at rows pending waiting (place words) false) [] 0) (ap₂ (λ w o. request_by w [] o) (sym (append-nil words)) (sym (append-nil options)))
    (at_end rows pending waiting (place words) false words [] options none holds)

wanting_end : Wanting []
wanting_end rows words options key takes h =
    ends_badly (at rows (Some (id_of key, [])) (option (id_of key)) (place words) false) 0 None kind.InvalidValue [] (missing_value key rows takes) refl

follows : (rest : List Text) → EachIsUtf8 rest → Quietly rest × Wanting rest
follows [] utf8 = (quiet_end, wanting_end)
follows (word ∷ rest) utf8 =
    let ahead = follows rest utf8.1 in (
      (λ rows pending waiting words options quiet none h. quiet_word word rest ahead.0 ahead.1 rows pending waiting words options quiet none h (classify word utf8.0)),
      (λ rows words options key takes h. wanting_word word rest utf8.1 ahead.0 rows words options key takes h (classify word utf8.0)),
    )

-- ---- the command

abbrev built_app : App
built_app = record { top = top; subs = [] }

abbrev ended : List Text → Walk
ended words = fold (walked rules []) (walk_from nothing_held) words

no_check : (rows : List Row) (entered : Bool) → check_fault top rows entered ≡ []
unfolding rules
no_check rows true = refl
no_check rows false = refl

none_entered : (stop : Option (Text × List Text)) → entered_fault built_app stop ≡ []
none_entered None = refl
none_entered (Some p) = refl

top_fault : (words : List Text) → fault_of reader_app words ≡ tail_fault (walk_from nothing_held) words
top_fault words =
    let end = (ended words).held in
    let w = walk_fault top [] (walk_from nothing_held) words in
    let s = settle_fault rules false end in
    let built_same : fault_of reader_app words ≡ built_fault built_app nothing_held words = ap (λ a. built_fault a nothing_held words) built_is in
    built_same
    ∙ ((λ i. or_else w (or_else (none_entered (ended words).stopped i) (or_else s (or_else (no_default_fault (settled rules end).rows i) (no_check (finished rules end) (is_some (entered built_app (ended words).stopped)) i)))))
    ∙ ap (or_else w) (or_else_nil s))

top_rows : (words : List Text) → matches_of reader_app words ≡ end_rows (walk_from nothing_held) words
top_rows words = ap (λ (a : App). rows_after a.top.rules (names_of a) words) built_is

answered : (words : List Text) → EachIsUtf8 words → Answers (fault_of reader_app words) (matches_of reader_app words) (behind_of words) (request words)
answered words utf8 =
    let start : Gives (walk_from nothing_held) words (behind_of words) (from [] [] (said words)) = (follows words utf8).0 [] None idle [] [] tt refl holds_nothing in
    let same : from [] [] (said words) ≡ request words = go (said words) in
    subst (λ k. Answers k (matches_of reader_app words) (behind_of words) (request words)) (sym (top_fault words))
    (subst (λ r. Answers (tail_fault (walk_from nothing_held) words) r (behind_of words) (request words)) (sym (top_rows words))
    (subst (Gives (walk_from nothing_held) words (behind_of words)) same start))
  where
    go : (s : Option Said) → from [] [] s ≡ (s >>= λ s. request_by s.words s.behind s.options)
    go None = refl
    go (Some s) = refl

each_utf8 : {Z : Type 0} (words : List (String Z)) → EachIsUtf8 (map string_bytes words)
each_utf8 [] = tt
each_utf8 (w ∷ ws) = (IsUtf8-string_bytes w, each_utf8 ws)

-- what is matched asks for what the words ask for, and what isn't asks for nothing
pub matched_asks : {Z : Type 0} (words : List (String Z)) (rows : List Row) → Some rows ≡ matched (map string_bytes words)
    → (schedule : Bool) × IsFlag rows schedule × (asked_by rows schedule (behind_of (map string_bytes words)) ≡ request (map string_bytes words))
matched_asks words rows e = go (fault_of reader_app (map string_bytes words)) (matches_of reader_app (map string_bytes words)) e (answered (map string_bytes words) (each_utf8 words))
  where
    go : (kinds : Kinds) (found : List Row) → Some rows ≡ matched_if kinds found → Answers kinds found (behind_of (map string_bytes words)) (request (map string_bytes words))
        → (schedule : Bool) × IsFlag rows schedule × (asked_by rows schedule (behind_of (map string_bytes words)) ≡ request (map string_bytes words))
    go [] found e a = let same : found ≡ rows = cc in subst (λ r. (schedule : Bool) × IsFlag r schedule × (asked_by r schedule (behind_of (map string_bytes words)) ≡ request (map string_bytes words))) same a
    go (k ∷ ks) found e a = absurd cc

pub unmatched_asks : {Z : Type 0} (words : List (String Z)) → None ≡ matched (map string_bytes words) → None ≡ request (map string_bytes words)
unmatched_asks words e = go (fault_of reader_app (map string_bytes words)) (matches_of reader_app (map string_bytes words)) e (answered (map string_bytes words) (each_utf8 words))
  where
    go : (kinds : Kinds) (found : List Row) → None ≡ matched_if kinds found → Answers kinds found (behind_of (map string_bytes words)) (request (map string_bytes words)) → None ≡ request (map string_bytes words)
    go [] found e a = absurd cc
    go (k ∷ ks) found e a = a

pub asks : {Z : Type 0} (words : List (String Z)) (rows : List Row) (behind : ℕ) (r : Option Request) → Some rows ≡ matched (map string_bytes words) → behind ≡ behind_of (map string_bytes words)
    → ((schedule : Bool) → IsFlag rows schedule → r ≡ asked_by rows schedule behind) → r ≡ request (map string_bytes words)
asks words rows behind r is count h =
    let all = matched_asks words rows is in
    h all.0 all.1 ∙ (ap (asked_by rows all.0) count ∙ all.2)
