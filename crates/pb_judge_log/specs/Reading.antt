-- What is read from the fields of a line, which stand between its spaces.
use Rattle.std.specs.Prelude.{◌≡◌, ℕ, ◌+◌, ◌-◌, ◌^◌, cond, Bool, true, false, ◌&&◌, not, nat_eq, nat_lt, List, [], ◌∷◌, length, map, codes, position, Option, Some, None}
use Rattle.std.specs.Cmp.Lexicographic.{pointwise}
use Rattle.pb_text.specs.declared.action.Action.{Action}
use Rattle.pb_text.specs.declared.action.Action.TheVariants as A
use Rattle.pb_text.specs.declared.action.Joint.{Joint}
use Rattle.pb_text.specs.declared.action.Joint.TheVariants.{Barrier, Labelled}
use Rattle.pb_syntax.specs.declared.core_label.KernelKind.{KernelKind}
use Rattle.pb_syntax.specs.declared.core_label.KernelKind.TheVariants.{Compute, Choice}
use Rattle.pb_syntax.specs.declared.tree.Payload.{Payload}
use Rattle.pb_syntax.specs.declared.tree.Payload.TheVariants.{Unit as NoWords, Int32, Uint32}
use Rattle.pb_core_language.specs.Lists.{is_empty}
use Rattle.pb_local.specs.Tables.{label_at, kernel_at}
use Rattle.pb_local.specs.Tree.{Program}
use Rattle.pb_text_read.specs.Fronts.{◌>>=◌, strip}
use Rattle.pb_sched.specs.Parts.{number_at}
use Rattle.pb_judge_log.specs.declared.actions.Verb.{Verb}
use Rattle.pb_judge_log.specs.declared.actions.Verb.TheVariants as V
use Rattle.pb_judge_log.specs.declared.actions.Deed.{Deed}
use Rattle.pb_judge_log.specs.declared.actions.Deed.TheVariants as D

-- a value that was read, as the definition has it
abbrev pub Gives : {A B : Type 0} → (A → B) → Option A → Option B → Type 0
Gives shows None read = read ≡ None
Gives shows (Some x) read = read ≡ Some (shows x)

-- ---- lines and fields

abbrev pub is_within_line : ℕ → Bool
is_within_line byte = not (nat_eq byte 10)

abbrev pub onto_line : ℕ → Option (List ℕ × List ℕ) → Option (List ℕ × List ℕ)
onto_line byte None = None
onto_line byte (Some line) = Some (byte ∷ line.0, line.1)

-- the first line without its line feed, and what stands behind that
abbrev pub line_at : List ℕ → Option (List ℕ × List ℕ)
line_at [] = None
line_at (byte ∷ bytes) = cond (nat_eq byte 10) (Some ([], bytes)) (onto_line byte (line_at bytes))

abbrev pub is_inside : ℕ → Bool
is_inside byte = not (nat_eq byte 32)

abbrev pub onto : ℕ → List (List ℕ) → List (List ℕ)
onto byte [] = (byte ∷ []) ∷ []
onto byte (field ∷ fields) = (byte ∷ field) ∷ fields

-- what stands between the spaces of a line
abbrev pub fields : List ℕ → List (List ℕ)
fields [] = [] ∷ []
fields (byte ∷ bytes) = cond (nat_eq byte 32) ([] ∷ fields bytes) (onto byte (fields bytes))

-- the fields that are left, each behind a space
abbrev pub fields_behind : List ℕ → List (List ℕ)
fields_behind [] = []
fields_behind (space ∷ bytes) = fields bytes

-- the fields, where there are some
abbrev pub some_fields : List (List ℕ) → Option (List (List ℕ))
some_fields [] = None
some_fields (field ∷ others) = Some (field ∷ others)

-- ---- numbers and words

-- a number below the limit, without leading zeros
abbrev pub whole_number : ℕ → List ℕ → Option ℕ
whole_number limit field = number_at field >>= λ n. cond (is_empty n.1 && nat_lt n.0 limit) (Some n.0) None

abbrev pub negative_of : ℕ → Option ℕ
negative_of n = cond (nat_eq n 0) None (Some (2 ^ 32 - n))

abbrev pub negative_in : List ℕ → Option ℕ
negative_in digits = whole_number (2 ^ 31 + 1) digits >>= negative_of

abbrev pub signed_by : Option (List ℕ) → List ℕ → Option ℕ
signed_by None field = whole_number (2 ^ 31) field
signed_by (Some digits) field = negative_in digits

abbrev pub signed_in : List ℕ → Option ℕ
signed_in field = signed_by (strip (codes "-") field) field

abbrev pub word_in : Payload → List ℕ → Option ℕ
word_in NoWords field = whole_number (2 ^ 32) field
word_in (Int32 count) field = signed_in field
word_in (Uint32 count) field = whole_number (2 ^ 32) field

abbrev pub with_word : ℕ → Option (List ℕ) → Option (List ℕ)
with_word word None = None
with_word word (Some words) = Some (word ∷ words)

abbrev pub words_in : Payload → List (List ℕ) → Option (List ℕ)
words_in payload [] = Some []
words_in payload (field ∷ others) = word_in payload field >>= λ word. with_word word (words_in payload others)

abbrev pub told_with : (List ℕ → Action) → Option (List ℕ) → Option Action
told_with make words = words >>= λ ws. Some (make ws)

-- an action, where no field is left
abbrev pub alone : Action → List (List ℕ) → Option Action
alone action [] = Some action
alone action (field ∷ rest) = None

-- ---- names

-- where a name of 1 to 64 bytes stands
abbrev pub find_in : List (List ℕ) → List ℕ → Option ℕ
find_in names field = cond (nat_lt 0 (length field) && nat_lt (length field) 65) (position (pointwise nat_eq field) names) None

abbrev pub is_kind : KernelKind → KernelKind → Bool
is_kind Compute Compute = true
is_kind Compute Choice = false
is_kind Choice Compute = false
is_kind Choice Choice = true

abbrev pub verb_in : List ℕ → Option Verb
verb_in word =
    cond (pointwise nat_eq word (codes "choose")) (Some V.Choose)
    (cond (pointwise nat_eq word (codes "run")) (Some V.Run)
    (cond (pointwise nat_eq word (codes "send")) (Some V.Send)
    (cond (pointwise nat_eq word (codes "recv")) (Some V.Recv)
    (cond (pointwise nat_eq word (codes "enter")) (Some V.Enter)
    (cond (pointwise nat_eq word (codes "leave")) (Some V.Leave) None)))))

-- ---- one line

module _ (p : Program) (total : ℕ) where
  abbrev pub label_in : List ℕ → Option ℕ
  label_in field = find_in (map (λ l. l.name) p.labels) field

  abbrev pub kernel_in : KernelKind → List ℕ → Option ℕ
  kernel_in kind field = find_in (map (λ k. k.name) p.kernels) field >>= λ k. cond (is_kind (kernel_at p k).kind kind) (Some k) None

  abbrev pub rank_in : List ℕ → Option ℕ
  rank_in field = whole_number total field

  abbrev pub answer_in : ℕ → List (List ℕ) → Option (Deed × List (List ℕ))
  answer_in kernel [] = None
  answer_in kernel (field ∷ rest) = whole_number (2 ^ 32) field >>= λ answer. Some (D.Choose kernel answer, rest)

  abbrev pub choose_in : List (List ℕ) → Option (Deed × List (List ℕ))
  choose_in [] = None
  choose_in (field ∷ rest) = kernel_in Choice field >>= λ kernel. answer_in kernel rest

  abbrev pub run_in : List (List ℕ) → Option (Deed × List (List ℕ))
  run_in [] = None
  run_in (field ∷ rest) = kernel_in Compute field >>= λ kernel. Some (D.Run kernel, rest)

  -- a label's number behind a rank
  abbrev pub labelled_in : ℕ → List (List ℕ) → Option ((ℕ × ℕ) × List (List ℕ))
  labelled_in peer [] = None
  labelled_in peer (field ∷ rest) = label_in field >>= λ label. Some ((peer, label), rest)

  abbrev pub message_in : List (List ℕ) → Option ((ℕ × ℕ) × List (List ℕ))
  message_in [] = None
  message_in (field ∷ rest) = rank_in field >>= λ peer. labelled_in peer rest

  abbrev pub joint_in : List (List ℕ) → Option (Joint × List (List ℕ))
  joint_in [] = None
  joint_in (field ∷ rest) = cond (pointwise nat_eq field (codes "barrier")) (Some (Barrier, rest)) (label_in field >>= λ label. Some (Labelled label, rest))

  abbrev pub deed_in : Verb → List (List ℕ) → Option (Deed × List (List ℕ))
  deed_in V.Choose rest = choose_in rest
  deed_in V.Run rest = run_in rest
  deed_in V.Send rest = message_in rest >>= λ m. Some (D.Send m.0.0 m.0.1, m.1)
  deed_in V.Recv rest = message_in rest >>= λ m. Some (D.Recv m.0.0 m.0.1, m.1)
  deed_in V.Enter rest = joint_in rest >>= λ j. Some (D.Enter j.0, j.1)
  deed_in V.Leave rest = joint_in rest >>= λ j. Some (D.Leave j.0, j.1)

  abbrev pub done_in : List (List ℕ) → Option (Deed × List (List ℕ))
  done_in [] = None
  done_in (field ∷ rest) = verb_in field >>= λ verb. deed_in verb rest

  abbrev pub by_rank : ℕ → Option (Deed × List (List ℕ)) → Option ((ℕ × Deed) × List (List ℕ))
  by_rank rank None = None
  by_rank rank (Some done) = Some ((rank, done.0), done.1)

  -- the rank and what it does, and the fields behind that
  abbrev pub begun_in : List (List ℕ) → Option ((ℕ × Deed) × List (List ℕ))
  begun_in [] = None
  begun_in (field ∷ rest) = rank_in field >>= λ rank. by_rank rank (done_in rest)

  abbrev pub payload_of : Joint → Payload
  payload_of Barrier = NoWords
  payload_of (Labelled label) = (label_at p label).payload

  -- the action with the words that are left
  abbrev pub completed : ℕ → Deed → List (List ℕ) → Option Action
  completed rank (D.Choose kernel answer) rest = alone (A.Choose rank kernel answer) rest
  completed rank (D.Run kernel) rest = alone (A.Run rank kernel) rest
  completed rank (D.Send to label) rest = told_with (A.Send rank to label) (words_in (label_at p label).payload rest)
  completed rank (D.Recv from label) rest = told_with (A.Recv rank from label) (words_in (label_at p label).payload rest)
  completed rank (D.Enter what) rest = told_with (A.Enter rank what) (words_in (payload_of what) rest)
  completed rank (D.Leave what) rest = told_with (A.Leave rank what) (words_in (payload_of what) rest)

  abbrev pub entry_in : List (List ℕ) → Option Action
  entry_in line = begun_in line >>= λ x. completed x.0.0 x.0.1 x.1
