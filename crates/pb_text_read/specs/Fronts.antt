-- What a text begins with, read with the bytes behind it.
use Rattle.std.specs.Prelude.{ℕ, ◌+◌, ◌-◌, ◌*◌, nat_eq, nat_lt, cond, List, [], ◌∷◌, Option, Some, None}
use Rattle.std.specs.Char.{is_ascii_digit}

-- what is read first, and then the next
infixl 10 ◌>>=◌
abbrev pub ◌>>=◌ : {A B : Type 0} → Option A → (A → Option B) → Option B
(Some x) >>= f = f x
None >>= f = None

-- the bytes behind a text
abbrev pub strip : List ℕ → List ℕ → Option (List ℕ)
strip [] bytes = Some bytes
strip (p ∷ ps) [] = None
strip (p ∷ ps) (b ∷ bytes) = cond (nat_eq p b) (strip ps bytes) None

-- what is read behind a text, or else
abbrev pub after : {A : Type 0} → Option (List ℕ) → (List ℕ → Option A) → Option A → Option A
after (Some rest) found other = found rest
after None found other = other

-- the number that more digits make of a number, as long as it is below the limit
abbrev pub digits_below : ℕ → ℕ → List ℕ → Option (ℕ × List ℕ)
digits_below limit n [] = Some (n, [])
digits_below limit n (c ∷ cs) =
    cond (is_ascii_digit c) (cond (nat_lt (10 * n + (c - 48)) limit) (digits_below limit (10 * n + (c - 48)) cs) None) (Some (n, c ∷ cs))

-- a number of one digit or more
abbrev pub number_below : ℕ → List ℕ → Option (ℕ × List ℕ)
number_below limit [] = None
number_below limit (c ∷ cs) = cond (is_ascii_digit c) (digits_below limit (c - 48) cs) None
