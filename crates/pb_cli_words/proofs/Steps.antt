-- What `clap` makes of one word more.
use Rattle.std.proofs.Common.{◌≡◌, ℕ, Bool, true, false, codes, List, [], ◌∷◌, Option, Some, None, refl, sym, ap, ap₂, ◌∙◌, length}
use Rattle.std.proofs.lemmas.Bool.{and_right, true≢false}
use Rattle.std.specs.Str.{chars}
use Rattle.clap.specs.Words.{Kinds, Row, Rule, Text}
use Rattle.clap.specs.Walk.{Held, Step, Waiting, Walk, idle, option, positional, value, next, after_step, arg_by_index, arg_by_long, is_pending, long_met, long_word, after_flag, settled_rows, to_positional, used, walked, word_met}
use Rattle.clap.specs.Kinds.{or_else}
use Rattle.clap.specs.Faults.{flags_fault, long_fault, settle_fault, step_fault, turn_fault, use_fault, word_fault}
use Rattle.clap.specs.declared.error.kind.ErrorKind.TheVariants as kind
use Rattle.pb_cli_words.specs.Said.{Key, N, Seed, Turns, Mode, Schedule, takes_value}
use Rattle.pb_cli_words.proofs.Rules.{top, rules, text_rule, command_rule, files_rule, flag_rule, id_of, by_key, by_short, first_place, second_place}
use Rattle.pb_cli_words.proofs.Classes.{IsPlain, IsLong, IsShort}

-- ---- where the walk stands

abbrev pub Pending : Type 0
Pending = Option (Text × List Text)

abbrev pub held : List Row → Pending → Held
held rows pending = record { rows = rows; pending = pending; skip = 0 }

abbrev pub at : List Row → Pending → Waiting → ℕ → Bool → Walk
at rows pending waiting position trailing = record { held = held rows pending; waiting = waiting; position = position; is_trailing = trailing; stopped = None }

-- the rows once the pending argument is used, and the kinds of error of that use
abbrev pub base : List Row → Pending → List Row
base rows pending = settled_rows rules pending rows

abbrev pub fault : List Row → Pending → Kinds
fault rows pending = settle_fault rules false (held rows pending)

-- no option waits for a value
abbrev pub IsQuiet : Waiting → Type 0
IsQuiet idle = Unit {0}
IsQuiet positional = Unit {0}
IsQuiet (option id) = ⊥

-- behind these words, the place of the next one, the argument that takes it, and what waits behind it
abbrev pub place : List Text → ℕ
place [] = 1
place (word ∷ words) = 2

abbrev pub taker : List Text → Rule
taker [] = command_rule
taker (word ∷ words) = files_rule

abbrev pub behind : List Text → Waiting
behind [] = idle
behind (word ∷ words) = positional

abbrev pub after_word : List Row → Pending → List Text → Text → Bool → Walk
after_word rows pending words word trailing = at (base rows pending) (Some ((taker words).id, word ∷ [])) (behind words) 2 trailing

abbrev pub turn : Walk → Text → Kinds
turn w word = turn_fault top [] w word

pub or_else_nil : (a : Kinds) → or_else a [] ≡ a
or_else_nil [] = refl
or_else_nil (k ∷ ks) = refl

or_else_assoc : (a b c : Kinds) → or_else (or_else a b) c ≡ or_else a (or_else b c)
or_else_assoc [] b c = refl
or_else_assoc (k ∷ ks) b c = refl

-- ---- a word that goes to a positional

to_taker : (rows : List Row) (pending : Pending) (waiting : Waiting) (words : List Text) (word : Text) (trailing : Bool)
    → to_positional rules (arg_by_index rules (place words)) word (at rows pending waiting (place words) trailing) (held rows pending) ≡ after_word rows pending words word trailing
to_taker rows pending waiting [] word true = rw (first_place, and_right (is_pending command_rule pending) false refl) refl
to_taker rows pending waiting [] word false = rw (first_place, and_right (is_pending command_rule pending) false refl) refl
to_taker rows pending waiting (w ∷ ws) word true = rw (second_place, and_right (is_pending files_rule pending) false refl) refl
to_taker rows pending waiting (w ∷ ws) word false = rw (second_place, and_right (is_pending files_rule pending) false refl) refl

value_fault : (rows : List Row) (pending : Pending) (words : List Text) → step_fault top (place words) (held rows pending) value ≡ fault rows pending
value_fault rows pending [] = rw (first_place, and_right (is_pending command_rule pending) false refl) refl
value_fault rows pending (w ∷ ws) = rw (second_place, and_right (is_pending files_rule pending) false refl) refl

plain_met : (waiting : Waiting) (position : ℕ) (word : Text) (h : Held) → IsQuiet waiting → IsPlain word → word_met rules [] false waiting position word h ≡ (h, value)
plain_met idle position word h quiet is = rw (is.bar, is.long, is.short) refl
plain_met positional position word h quiet is = rw (is.bar, is.long, is.short) refl
plain_met (option id) position word h quiet is = absurd quiet

plain_word_fault : (waiting : Waiting) (word : Text) (h : Held) → IsPlain word → word_fault top [] false waiting word h ≡ []
plain_word_fault idle word h is = rw (is.bar, is.long, is.short) refl
plain_word_fault positional word h is = rw (is.bar, is.long, is.short) refl
plain_word_fault (option id) word h is = rw (is.bar, is.long, is.short) refl

abbrev after_met : Text → Walk → Held × Step → Walk
after_met word w met = after_step rules word w met.0 met.1

abbrev fault_met : ℕ → Held × Step → Kinds
fault_met position met = step_fault top position met.0 met.1

pub plain_next : (rows : List Row) (pending : Pending) (waiting : Waiting) (words : List Text) (word : Text) → IsQuiet waiting → IsPlain word
    → walked rules [] (at rows pending waiting (place words) false) word ≡ after_word rows pending words word false
unfolding walked
plain_next rows pending waiting words word quiet is =
    ap (after_met word (at rows pending waiting (place words) false)) (plain_met waiting (place words) word (held rows pending) quiet is) ∙ to_taker rows pending waiting words word false

pub plain_turn : (rows : List Row) (pending : Pending) (waiting : Waiting) (words : List Text) (word : Text) → IsQuiet waiting → IsPlain word
    → turn (at rows pending waiting (place words) false) word ≡ fault rows pending
plain_turn rows pending waiting words word quiet is =
    ap₂ or_else (plain_word_fault waiting word (held rows pending) is)
    (ap (fault_met (place words)) (plain_met waiting (place words) word (held rows pending) quiet is) ∙ value_fault rows pending words)

-- behind `--`
pub trailing_next : (rows : List Row) (pending : Pending) (waiting : Waiting) (words : List Text) (word : Text)
    → walked rules [] (at rows pending waiting (place words) true) word ≡ after_word rows pending words word true
unfolding walked
trailing_next rows pending waiting words word = to_taker rows pending waiting words word true

pub trailing_turn : (rows : List Row) (pending : Pending) (waiting : Waiting) (words : List Text) (word : Text)
    → turn (at rows pending waiting (place words) true) word ≡ fault rows pending
trailing_turn rows pending waiting words word = value_fault rows pending words

-- ---- `--`

pub bar_next : (rows : List Row) (pending : Pending) (waiting : Waiting) (position : ℕ)
    → walked rules [] (at rows pending waiting position false) (codes "--") ≡ at rows pending waiting position true
unfolding walked
bar_next rows pending idle position = refl
bar_next rows pending positional position = refl
bar_next rows pending (option id) position = refl

pub bar_turn : (rows : List Row) (pending : Pending) (waiting : Waiting) (position : ℕ) → turn (at rows pending waiting position false) (codes "--") ≡ []
bar_turn rows pending idle position = refl
bar_turn rows pending positional position = refl
bar_turn rows pending (option id) position = refl

-- ---- an option

module _ (rows : List Row) (pending : Pending) (waiting : Waiting) (position : ℕ) (word name : Text) where
  abbrev stand : Walk
  stand = at rows pending waiting position false

  met_long : (v : Option Text) → IsLong word name v → word_met rules [] false waiting position word (held rows pending) ≡ long_word rules waiting word name v (held rows pending)
  met_long v is = go waiting
    where
      go : (w : Waiting) → word_met rules [] false w position word (held rows pending) ≡ long_word rules w word name v (held rows pending)
      go idle = rw (is.bar, is.long) refl
      go positional = rw (is.bar, is.long) refl
      go (option id) = rw (is.bar, is.long) refl

  fault_long : (v : Option Text) → IsLong word name v → word_fault top [] false waiting word (held rows pending) ≡ long_fault rules false (arg_by_long rules name) v (held rows pending)
  fault_long v is = go waiting
    where
      go : (w : Waiting) → word_fault top [] false w word (held rows pending) ≡ long_fault rules false (arg_by_long rules name) v (held rows pending)
      go idle = rw (is.bar, is.long) refl
      go positional = rw (is.bar, is.long) refl
      go (option id) = rw (is.bar, is.long) refl

  abbrev met_by : Option Text → Option Rule → Held × Step
  met_by v o = after_flag rules waiting word (long_met rules o v (held rows pending)).0 (long_met rules o v (held rows pending)).1

  met_found : (v : Option Text) (o : Option Rule) → IsLong word name v → arg_by_long rules name ≡ o → word_met rules [] false waiting position word (held rows pending) ≡ met_by v o
  met_found v o is found = met_long v is ∙ ap (met_by v) found

  -- the kinds of a word that is an option
  turn_found : (v : Option Text) (o : Option Rule) (h : Held) (w : Waiting) → IsLong word name v → arg_by_long rules name ≡ o → met_by v o ≡ (h, next w)
      → turn stand word ≡ long_fault rules false o v (held rows pending)
  turn_found v o h w is found met =
      ap₂ or_else (fault_long v is ∙ ap (λ x. long_fault rules false x v (held rows pending)) found) (ap (fault_met position) (met_found v o is found ∙ met))
      ∙ or_else_nil (long_fault rules false o v (held rows pending))

  module _ (found : arg_by_long rules name ≡ Some (text_rule name)) where
    pub alone_next : IsLong word name None → walked rules [] stand word ≡ at (base rows pending) (Some (name, [])) (option name) position false
    unfolding walked
    alone_next is = ap (after_met word stand) (met_found None _ is found)

    pub alone_turn : IsLong word name None → turn stand word ≡ fault rows pending
    alone_turn is = turn_found None _ (held (base rows pending) (Some (name, []))) (option name) is found refl

    pub joined_next : (v : Text) → IsLong word name (Some v) → walked rules [] stand word ≡ at (used (text_rule name) (v ∷ []) (base rows pending)) None idle position false
    unfolding walked
    joined_next v is = ap (after_met word stand) (met_found (Some v) _ is found)

    pub joined_turn : (v : Text) → IsLong word name (Some v) → turn stand word ≡ or_else (fault rows pending) (use_fault false (text_rule name) (v ∷ []) (base rows pending))
    joined_turn v is = turn_found (Some v) _ (held (used (text_rule name) (v ∷ []) (base rows pending)) None) idle is found refl

  module _ (found : arg_by_long rules name ≡ Some flag_rule) where
    pub flag_next : IsLong word name None → walked rules [] stand word ≡ at (used flag_rule [] (base rows pending)) None idle position false
    unfolding walked
    flag_next is = ap (after_met word stand) (met_found None _ is found)

    pub flag_turn : IsLong word name None → turn stand word ≡ or_else (fault rows pending) (use_fault false flag_rule [] (base rows pending))
    flag_turn is = turn_found None _ (held (used flag_rule [] (base rows pending)) None) idle is found refl

    pub flag_refused : (v : Text) → IsLong word name (Some v) → turn stand word ≡ kind.TooManyValues ∷ []
    flag_refused v is =
        let f = fault_long (Some v) is ∙ ap (λ x. long_fault rules false x (Some v) (held rows pending)) found in
        ap (λ x. or_else x (fault_met position (word_met rules [] false waiting position word (held rows pending)))) f

  pub unknown_refused : (v : Option Text) → IsLong word name v → arg_by_long rules name ≡ None → turn stand word ≡ kind.UnknownArgument ∷ []
  unknown_refused v is found =
      let f = fault_long v is ∙ ap (λ x. long_fault rules false x v (held rows pending)) found in
      ap (λ x. or_else x (fault_met position (word_met rules [] false waiting position word (held rows pending)))) f

first_flag : (c : ℕ) (cs : Text) (h : Held) → (x : ℕ) × (xs : Text) × (chars (c ∷ cs) ≡ x ∷ xs) → flags_fault rules false (length (c ∷ cs)) (c ∷ cs) 0 h ≡ kind.UnknownArgument ∷ []
unfolding flags_fault
first_flag c cs h spelled = rw (spelled.2, by_short spelled.0) refl

pub short_refused : (rows : List Row) (pending : Pending) (waiting : Waiting) (position : ℕ) (word : Text) (c : ℕ) (cs : Text) → IsShort word c cs
    → turn (at rows pending waiting position false) word ≡ kind.UnknownArgument ∷ []
short_refused rows pending waiting position word c cs is =
    ap (λ x. or_else x (fault_met position (word_met rules [] false waiting position word (held rows pending)))) (go waiting)
  where
    flags : flags_fault rules false (length (c ∷ cs)) (c ∷ cs) 0 (held rows pending) ≡ kind.UnknownArgument ∷ []
    flags = first_flag c cs (held rows pending) is.spelled

    go : (w : Waiting) → word_fault top [] false w word (held rows pending) ≡ kind.UnknownArgument ∷ []
    go idle = rw (is.bar, is.long, is.short) flags
    go positional = rw (is.bar, is.long, is.short) flags
    go (option id) = rw (is.bar, is.long, is.short) flags

-- ---- the value of an option, as the next word

module _ (rows : List Row) (key : Key) (takes : takes_value key ≡ true) (position : ℕ) (word : Text) (is : IsPlain word) where
  abbrev wants : Walk
  wants = at rows (Some (id_of key, [])) (option (id_of key)) position false

  value_met : word_met rules [] false (option (id_of key)) position word (held rows (Some (id_of key, []))) ≡ (held rows (Some (id_of key, word ∷ [])), next idle)
  value_met = go key takes
    where
      go : (k : Key) → takes_value k ≡ true
          → word_met rules [] false (option (id_of k)) position word (held rows (Some (id_of k, []))) ≡ (held rows (Some (id_of k, word ∷ [])), next idle)
      go N e = rw (is.bar, is.long, is.short, by_key N) refl
      go Seed e = rw (is.bar, is.long, is.short, by_key Seed) refl
      go Turns e = rw (is.bar, is.long, is.short, by_key Turns) refl
      go Mode e = rw (is.bar, is.long, is.short, by_key Mode) refl
      go Schedule e = absurd (true≢false (sym e))

  pub value_next : walked rules [] wants word ≡ at rows (Some (id_of key, word ∷ [])) idle position false
  unfolding walked
  value_next = ap (after_met word wants) value_met

  pub value_turn : turn wants word ≡ []
  value_turn = ap₂ or_else (plain_word_fault (option (id_of key)) word (held rows (Some (id_of key, []))) is) (ap (fault_met position) value_met)
