-- What the four collectives need and give (MPI 3.1, chapter 5), and with that the setting of a protocol at one N.
-- r and p are ranks, x and y words, f takes two words to one, and n is N.
use Rattle.std.specs.Prelude.{ℕ, zero, suc, ◌+◌, ◌-◌, ◌%◌, ◌^◌, ◌==◌, cond, Bool, true, ℤ, pos, negsuc, int_le, List, [], ◌∷◌, nat_lt, if◌then◌else◌}
use Rattle.pb_syntax.specs.declared.core_label.CoreLabel.{CoreLabel}
use Rattle.pb_syntax.specs.declared.tree.Payload.{Payload}
use Rattle.pb_syntax.specs.declared.tree.Payload.TheVariants.{Unit as Signal, Int32, Uint32}
use Rattle.pb_world.specs.Actions.{Operation, Max, Min, Sum, Collective, Barrier, Broadcast, Reduce, Allreduce}
use Rattle.pb_core_language.specs.Plain.{Protocol}
use Rattle.pb_core_language.specs.Ranks.{total}
use Rattle.pb_core_language.specs.Run.{Setting}

abbrev pub word_by_word : (ℕ → ℕ → ℕ) → List ℕ → List ℕ → List ℕ
word_by_word f [] ys = []
word_by_word f (x ∷ xs) [] = []
word_by_word f (x ∷ xs) (y ∷ ys) = f x y ∷ word_by_word f xs ys

-- the words of the ranks up to this one, from rank 0 on
abbrev pub combined : (ℕ → ℕ → ℕ) → ℕ → (ℕ → List ℕ) → List ℕ
combined f zero words = words 0
combined f (suc r) words = word_by_word f (combined f r words) (words (suc r))

abbrev pub combined_of : (ℕ → ℕ → ℕ) → ℕ → (ℕ → List ℕ) → List ℕ
combined_of f zero words = []
combined_of f (suc r) words = combined f r words

-- For this many ranks, sizes of labels, and an operation on two words of a label. A barrier has no words; in a
-- broadcast the root enters with words and all leave with them; in a reduce all enter and the root leaves with the
-- combination; in an allreduce all do both. A root that is no rank has no words.
module _ (total : ℕ) (size : ℕ → ℕ) (operate : Operation → ℕ → ℕ → ℕ → ℕ) where
  -- with how many words a rank enters
  abbrev pub weight : Collective → ℕ → ℕ
  weight Barrier r = 0
  weight (Broadcast label root) r = cond (r == root) (size label) 0
  weight (Reduce label operation root) r = size label
  weight (Allreduce label operation) r = size label

  -- whether rank r needs the entry of rank p to leave
  abbrev pub needs : Collective → ℕ → ℕ → Bool
  needs Barrier r p = true
  needs (Broadcast label root) r p = p == root
  needs (Reduce label operation root) r p = r == root
  needs (Allreduce label operation) r p = true

  -- the words with which rank r leaves
  abbrev pub outcome : Collective → ℕ → (ℕ → List ℕ) → List ℕ
  outcome Barrier r words = []
  outcome (Broadcast label root) r words = cond (nat_lt root total) (words root) []
  outcome (Reduce label operation root) r words = cond (r == root) (combined_of (operate operation label) total words) []
  outcome (Allreduce label operation) r words = combined_of (operate operation label) total words

  abbrev pub setting : Setting
  setting = record { total = total; size = size; weight = weight; needs = needs; outcome = outcome }

-- ---- words

-- a word read in two's complement
abbrev pub signed : ℕ → ℤ
signed x = if nat_lt x (2 ^ 31) then pos x else negsuc (2 ^ 32 - 1 - x)

abbrev pub is_at_most : Payload → ℕ → ℕ → Bool
is_at_most (Int32 count) x y = int_le (signed x) (signed y)
is_at_most (Uint32 count) x y = int_le (pos x) (pos y)
is_at_most Signal x y = int_le (pos x) (pos y)

-- an operation on two words; the sum is taken modulo 2^32
abbrev pub combine : Payload → Operation → ℕ → ℕ → ℕ
combine payload Min x y = if is_at_most payload x y then x else y
combine payload Max x y = if is_at_most payload x y then y else x
combine payload Sum x y = (x + y) % 2 ^ 32

abbrev pub word_count : Payload → ℕ
word_count Signal = 0
word_count (Int32 count) = count
word_count (Uint32 count) = count

-- the payload of the label with a number, none where there is no such label
abbrev pub payload_of : List CoreLabel → ℕ → Payload
payload_of [] number = Signal
payload_of (label ∷ labels) zero = label.payload
payload_of (label ∷ labels) (suc number) = payload_of labels number

-- the setting of a protocol
abbrev pub setting_of : Protocol → ℤ → Setting
setting_of protocol n =
    setting (total protocol.roles n) (λ label. word_count (payload_of protocol.labels label)) (λ operation label x y. combine (payload_of protocol.labels label) operation x y)
