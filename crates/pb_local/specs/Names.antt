-- Which words are names.
use Rattle.std.specs.Prelude.{◌≢◌, ℕ, ◌<◌, nat_le, nat_lt, nat_eq, not, Bool, false, ◌&&◌, ◌||◌, List, [], ◌∷◌, length, map, slice_index_or}
use Rattle.std.specs.List.{list_all, list_any}
use Rattle.std.specs.Cmp.Lexicographic.{pointwise}
use Rattle.pb_text.specs.Spellings.{keys, key_spelling}

abbrev pub is_letter : ℕ → Bool
is_letter c = (nat_le 65 c && nat_le c 90) || (nat_le 97 c && nat_le c 122) || nat_eq c 95

abbrev pub is_digit : ℕ → Bool
is_digit c = nat_le 48 c && nat_le c 57

-- a letter or an underscore, and then letters, underscores and digits
abbrev pub is_word : List ℕ → Bool
is_word [] = false
is_word (c ∷ cs) = is_letter c && list_all (λ d. is_letter d || is_digit d) cs

-- the keywords of the protocol language
abbrev pub keywords : List (List ℕ)
keywords = map key_spelling keys

abbrev pub is_keyword : List ℕ → Bool
is_keyword w = list_any (λ k. pointwise nat_eq k w) keywords

-- a name is a word of at most 64 bytes that is no keyword
abbrev pub is_name : List ℕ → Bool
is_name w = is_word w && nat_lt (length w) 65 && not (is_keyword w)

-- no name stands twice
abbrev pub AreDistinct : List (List ℕ) → Type 0
AreDistinct names = (i j : ℕ) → i < j → j < length names → slice_index_or names i [] ≢ slice_index_or names j []
