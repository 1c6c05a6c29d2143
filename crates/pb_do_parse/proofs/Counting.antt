-- Counting token by token.
use Rattle.std.proofs.Common.{◌≡◌, ℕ, ◌<◌, List, [], ◌∷◌, ◌++◌, length, drop, slice_index_or, Some, None, refl, sym, subst}
use Rattle.pb_text.specs.declared.quantity.Quantity.{Quantity}
use Rattle.pb_text.specs.declared.token.Token.{Token}
use Rattle.pb_parse.proofs.Counting.{drop_next}
use Rattle.pb_do_parse.specs.declared.limits.Counts.{Counts}
use Rattle.pb_do_parse.specs.Limits.{counts_next, counts_from, passed, NonePasses, NextPasses}

-- one token more
pub counts_more : (c : Counts) (xs : List Token) (t : Token) → counts_from c (xs ++ t ∷ []) ≡ counts_next (counts_from c xs) t
counts_more c [] t = refl
counts_more c (x ∷ xs) t = counts_more (counts_next c x) xs t

pub none_more : (c : Counts) (xs : List Token) (t : Token) → NonePasses c xs → passed (counts_from c xs) t ≡ None → NonePasses c (xs ++ t ∷ [])
none_more c [] t h e = (e, tt)
none_more c (x ∷ xs) t h e = (h.0, none_more (counts_next c x) xs t h.1 e)

-- where none of some tokens passes a limit, none of the first of them does
pub none_front : (c : Counts) (xs ys : List Token) → NonePasses c (xs ++ ys) → NonePasses c xs
none_front c [] ys h = tt
none_front c (x ∷ xs) ys h = (h.0, none_front (counts_next c x) xs ys h.1)

pub none_at : (c : Counts) (xs : List Token) (t : Token) (ys : List Token) → NonePasses c (xs ++ t ∷ ys) → passed (counts_from c xs) t ≡ None
none_at c [] t ys h = h.0
none_at c (x ∷ xs) t ys h = none_at (counts_next c x) xs t ys h.1

pub next_passes : (c : Counts) (ts : List Token) (i : ℕ) (t : Token) (limit : Quantity) → i < length ts → t ≡ slice_index_or ts i t → passed c t ≡ Some limit → NextPasses c (drop i ts) limit
next_passes c ts i t limit lt is e = subst (λ (l : List Token). NextPasses c l limit) (sym (drop_next ts i t lt is)) e

pub passes_next : (c : Counts) (ts : List Token) (i : ℕ) (t : Token) (limit : Quantity) → i < length ts → t ≡ slice_index_or ts i t → NextPasses c (drop i ts) limit → passed c t ≡ Some limit
passes_next c ts i t limit lt is h = subst (λ (l : List Token). NextPasses c l limit) (drop_next ts i t lt is) h
