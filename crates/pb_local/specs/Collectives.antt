-- What the four collectives of a printed text need and give (MPI 3.1, chapter 5).
use Rattle.std.specs.Prelude.{ℕ, zero, suc, ◌+◌, ◌-◌, ◌%◌, ◌^◌, ◌==◌, cond, Bool, true, ℤ, pos, negsuc, int_le, List, [], ◌∷◌, nat_lt, if◌then◌else◌}
use Rattle.pb_syntax.specs.declared.tree.Op.{Op}
use Rattle.pb_syntax.specs.declared.tree.Op.TheVariants as O
use Rattle.pb_syntax.specs.declared.tree.Payload.{Payload}
use Rattle.pb_syntax.specs.declared.tree.Payload.TheVariants.{Unit as NoWords, Int32, Uint32}
use Rattle.pb_world.specs.Actions.{Operation, Max, Min, Sum, Collective, Barrier, Broadcast, Reduce, Allreduce}
use Rattle.pb_local.specs.Ranks.{total}
use Rattle.pb_local.specs.Tables.{label_at}
use Rattle.pb_local.specs.Tree.{Program}

abbrev pub operation_of : Op → Operation
operation_of O.Max = Max
operation_of O.Min = Min
operation_of O.Sum = Sum

-- ---- words

-- a word read in two's complement
abbrev pub signed : ℕ → ℤ
signed w = if nat_lt w (2 ^ 31) then pos w else negsuc (2 ^ 32 - 1 - w)

abbrev pub is_at_most : Payload → ℕ → ℕ → Bool
is_at_most (Int32 count) x y = int_le (signed x) (signed y)
is_at_most (Uint32 count) x y = int_le (pos x) (pos y)
is_at_most NoWords x y = int_le (pos x) (pos y)

-- an operation on two words; the sum is taken modulo 2^32
abbrev pub combine : Payload → Operation → ℕ → ℕ → ℕ
combine payload Min x y = if is_at_most payload x y then x else y
combine payload Max x y = if is_at_most payload x y then y else x
combine payload Sum x y = (x + y) % 2 ^ 32

abbrev pub word_by_word : (ℕ → ℕ → ℕ) → List ℕ → List ℕ → List ℕ
word_by_word f [] ys = []
word_by_word f (x ∷ xs) [] = []
word_by_word f (x ∷ xs) (y ∷ ys) = f x y ∷ word_by_word f xs ys

-- the words of the ranks up to this one, from rank 0 on
abbrev pub combined : (ℕ → ℕ → ℕ) → ℕ → (ℕ → List ℕ) → List ℕ
combined f zero words = words 0
combined f (suc r) words = word_by_word f (combined f r words) (words (suc r))

-- the words of so many ranks
abbrev pub combined_of : (ℕ → ℕ → ℕ) → ℕ → (ℕ → List ℕ) → List ℕ
combined_of f zero words = []
combined_of f (suc r) words = combined f r words

abbrev pub word_count : Payload → ℕ
word_count NoWords = 0
word_count (Int32 count) = count
word_count (Uint32 count) = count

-- ---- collectives

-- whether rank r needs the entry of rank q to leave
abbrev pub needs : Collective → ℕ → ℕ → Bool
needs Barrier r q = true
needs (Broadcast label root) r q = q == root
needs (Reduce label operation root) r q = r == root
needs (Allreduce label operation) r q = true

-- Of program p at N = n
module _ (p : Program) (n : ℤ) where
  -- how many words a message with the label has
  abbrev pub words_of : ℕ → ℕ
  words_of label = word_count (label_at p label).payload

  -- with how many words rank r enters
  abbrev pub weight : Collective → ℕ → ℕ
  weight Barrier r = 0
  weight (Broadcast label root) r = cond (r == root) (words_of label) 0
  weight (Reduce label operation root) r = words_of label
  weight (Allreduce label operation) r = words_of label

  abbrev pub combination : ℕ → Operation → (ℕ → List ℕ) → List ℕ
  combination label operation words = combined_of (combine (label_at p label).payload operation) (total p.roles n) words

  -- the words with which rank r leaves, by what each has entered with
  abbrev pub outcome : Collective → ℕ → (ℕ → List ℕ) → List ℕ
  outcome Barrier r words = []
  outcome (Broadcast label root) r words = cond (nat_lt root (total p.roles n)) (words root) []
  outcome (Reduce label operation root) r words = cond (r == root) (combination label operation words) []
  outcome (Allreduce label operation) r words = combination label operation words
