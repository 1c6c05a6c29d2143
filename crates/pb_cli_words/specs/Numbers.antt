-- Numbers as words: 1 to 20 decimal digits, and leading zeros are allowed.
use Rattle.std.specs.Prelude.{ℕ, ◌^◌, ◌&&◌, nat_lt, nat_le, cond, Bool, true, List, [], ◌∷◌, length, Option, Some, None}
use Rattle.std.specs.Char.{is_ascii_digit}
use Rattle.pb_text.specs.Lexemes.{value_from}

abbrev pub all_digits : List ℕ → Bool
all_digits [] = true
all_digits (c ∷ cs) = is_ascii_digit c && all_digits cs

-- the number of digits behind one that was read before, where it is below 2^64
abbrev pub number_behind : ℕ → List ℕ → Option ℕ
number_behind n text = cond (all_digits text && nat_lt (value_from n text) (2 ^ 64)) (Some (value_from n text)) None

abbrev pub is_number : List ℕ → Bool
is_number text = nat_lt 0 (length text) && nat_le (length text) 20 && all_digits text

abbrev pub is_within : ℕ → ℕ → ℕ → Bool
is_within low high n = nat_le low n && nat_le n high

-- the number that a text is, if it is one of this range
abbrev pub number_in : ℕ → ℕ → List ℕ → Option ℕ
number_in low high text = cond (is_number text && is_within low high (value_from 0 text)) (Some (value_from 0 text)) None
