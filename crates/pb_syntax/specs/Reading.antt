-- Reading from left to right: what was read and the tokens behind it, or the tokens from the first one on that doesn't go on.
use Rattle.std.specs.Prelude.{ℕ, zero, suc, Bool, false, List, [], ◌∷◌, ◌++◌, length, ◌==◌, ◌||◌, Option, Some, None, Result, Ok, Err, if◌then◌else◌}
use Rattle.pb_text.specs.declared.token.Token.{Token}
use Rattle.pb_syntax.specs.Grammar.{kind_number}

abbrev pub Reader : Type 0 → Type 0
Reader A = List Token → Result (A × List Token) (List Token)

abbrev pub done_at : {A : Type 0} → A → Reader A
done_at x ts = Ok (x, ts)

abbrev pub taken : {A : Type 0} → Option A → Token → List Token → Result (A × List Token) (List Token)
taken (Some x) t ts = Ok (x, ts)
taken None t ts = Err (t ∷ ts)

abbrev pub one_at : {A : Type 0} → (Token → Option A) → Reader A
one_at reads [] = Err []
one_at reads (t ∷ ts) = taken (reads t) t ts

abbrev pub next : {A B : Type 0} → Result (A × List Token) (List Token) → (A → Reader B) → Result (B × List Token) (List Token)
next (Ok p) f = f p.0 p.1
next (Err ts) f = Err ts

infixl 10 ◌>>=◌
abbrev pub ◌>>=◌ : {A B : Type 0} → Reader A → (A → Reader B) → Reader B
(a >>= f) ts = next (a ts) f

abbrev pub head_of : List Token → Option Token
head_of [] = None
head_of (t ∷ ts) = Some t

abbrev pub holds : (Token → Bool) → Option Token → Bool
holds test None = false
holds test (Some t) = test t

-- there is a next token, and it passes the test
abbrev pub starts : (Token → Bool) → List Token → Bool
starts test ts = holds test (head_of ts)

abbrev pub choose : {A : Type 0} → (Token → Bool) → Reader A → Reader A → Reader A
choose test a b ts = if starts test ts then a ts else b ts

-- as long as the next token passes the test, at most n times
abbrev pub repeat_at : {A : Type 0} → (Token → Bool) → Reader A → ℕ → Reader (List A)
repeat_at test one zero ts = Ok ([], ts)
repeat_at test one (suc n) ts = if starts test ts then next (one ts) (λ x mid. next (repeat_at test one n mid) (λ xs rest. Ok (x ∷ xs, rest))) else Ok ([], ts)

abbrev pub many_at : {A : Type 0} → (Token → Bool) → Reader A → Reader (List A)
many_at test one ts = repeat_at test one (length ts) ts

-- what was read before, and what is still read
abbrev pub with_front : {A : Type 0} → List A → Result (List A × List Token) (List Token) → Result (List A × List Token) (List Token)
with_front front read = next read (λ xs rest. Ok (front ++ xs, rest))

-- a kind whose number is one of these
abbrev pub within : List ℕ → ℕ → Bool
within [] k = false
within (n ∷ ns) k = (k == n) || within ns k

abbrev pub among : List ℕ → Token → Bool
among ns t = within ns (kind_number t.kind)
