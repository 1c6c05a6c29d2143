-- What a line is made of: numbers, names and words. Each is read with the bytes behind it.
use Rattle.std.specs.Prelude.{◌≡◌, ℕ, ◌^◌, nat_eq, nat_le, cond, Bool, ◌||◌, ◌&&◌, List, [], ◌∷◌, take, drop, Option, Some, None, codes}
use Rattle.std.specs.Char.{is_ascii_alphanumeric, is_ascii_digit}
use Rattle.std.specs.List.{prefix_len}
use Rattle.pb_text_read.specs.Fronts.{◌>>=◌, strip, number_below}

-- a number that fits 32 bits, without leading zeros: a zero ends it
abbrev pub number_at : List ℕ → Option (ℕ × List ℕ)
number_at [] = None
number_at (c ∷ cs) = cond (nat_eq c 48) (Some (0, cs)) (number_below (2 ^ 32) (c ∷ cs))

-- a letter, a digit or `_`
abbrev pub goes_on_name : ℕ → Bool
goes_on_name byte = is_ascii_alphanumeric byte || nat_eq byte 95

-- a name of so many bytes
abbrev pub name_of : ℕ → List ℕ → Option (List ℕ × List ℕ)
name_of len text = cond (nat_le 1 len && nat_le len 64) (Some (take len text, drop len text)) None

-- letters, digits and `_`, as long as possible, 1 to 64 of them, and the first no digit
abbrev pub name_at : List ℕ → Option (List ℕ × List ℕ)
name_at [] = None
name_at (c ∷ cs) = cond (is_ascii_digit c) None (name_of (prefix_len goes_on_name (c ∷ cs)) (c ∷ cs))

-- what stands behind a number from 1 to 2^31
abbrev pub below_zero : ℕ × List ℕ → Option (List ℕ)
below_zero n = cond (nat_le 1 n.0 && nat_le n.0 (2 ^ 31)) (Some n.1) None

-- what stands behind a word: a number of 32 bits, or one below zero in two's complement
abbrev pub unsigned_at : List ℕ → Option (List ℕ)
unsigned_at text = number_at text >>= λ n. Some n.1

abbrev pub signed_at : List ℕ → Option (List ℕ)
signed_at text = number_at text >>= below_zero

abbrev pub word_by : List ℕ → Option (List ℕ) → Option (List ℕ)
word_by text None = unsigned_at text
word_by text (Some digits) = signed_at digits

abbrev pub word_at : List ℕ → Option (List ℕ)
word_at text = word_by text (strip (codes "-") text)

-- a value that was read, and the bytes behind it
abbrev pub GivesTo : {A B : Type 0} → (A → B) → Option A → Option B → Type 0
GivesTo shows None read = read ≡ None
GivesTo shows (Some x) read = read ≡ Some (shows x)
