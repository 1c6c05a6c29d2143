-- A list of tokens has one fault.
use Rattle.std.proofs.Common.{◌≡◌, ◌⊎◌, inl, inr, List, [], ◌∷◌, ◌++◌, Some, None, refl, sym, ap, subst, ◌∙◌, append_assoc}
use Rattle.pb_text.specs.declared.place.Place.{Place}
use Rattle.pb_text.specs.declared.quantity.Quantity.{Quantity}
use Rattle.pb_text.specs.declared.quantity.Quantity.TheVariants as quantity
use Rattle.pb_text.specs.declared.token.Token.{Token}
use Rattle.pb_syntax.specs.Grammar.{file, block, IsFront}
use Rattle.pb_syntax.proofs.LawfulGrammar.{block_ok, file_ok}
use Rattle.pb_parse.specs.Limits.{AreWithin, passed, counts, at_start}
use Rattle.pb_parse.specs.Parsed.{IsUnexpected, IsTooEarly, Passes, IsFault}
use Rattle.pb_parse.specs.declared.fault.ParseFault.{ParseFault}
use Rattle.pb_parse.specs.declared.fault.ParseFault.TheVariants as fault
use Rattle.pb_parse.proofs.Counting.{none_at}

-- ---- two ways to name a token of a list

record Here (xs : List Token) (t : Token) (ys : List Token) (u : Token) : Type 0 where
  front : xs ≡ ys
  token : t ≡ u

-- the first stands among those before the second
record Earlier (xs : List Token) (t : Token) (ys : List Token) : Type 0 where
  mid : List Token
  is : ys ≡ (xs ++ t ∷ []) ++ mid

abbrev Order : List Token → Token → List Token → Token → Type 0
Order xs t ys u = Here xs t ys u ⊎ (Earlier xs t ys ⊎ Earlier ys u xs)

one_more : (x y : Token) (xs ys : List Token) (t u : Token) → x ≡ y → Order xs t ys u → Order (x ∷ xs) t (y ∷ ys) u
one_more x y xs ys t u same (inl p) = inl (record { front = cc (p.front, same); token = p.token })
one_more x y xs ys t u same (inr (inl p)) = inr (inl (record { mid = p.mid; is = cc (p.is, same) }))
one_more x y xs ys t u same (inr (inr p)) = inr (inr (record { mid = p.mid; is = cc (p.is, same) }))

order : (xs : List Token) (t : Token) (r ys : List Token) (u : Token) (s : List Token) → xs ++ t ∷ r ≡ ys ++ u ∷ s → Order xs t ys u
order [] t r [] u s e = inl (record { front = refl; token = cc })
order [] t r (y ∷ ys) u s e = let same : y ≡ t = cc in inr (inl (record { mid = ys; is = ap (λ (v : Token). v ∷ ys) same }))
order (x ∷ xs) t r [] u s e = let same : x ≡ u = cc in inr (inr (record { mid = xs; is = ap (λ (v : Token). v ∷ xs) same }))
order (x ∷ xs) t r (y ∷ ys) u s e =
    let same : x ≡ y = cc in
    let rest : xs ++ t ∷ r ≡ ys ++ u ∷ s = cc in
    one_more x y xs ys t u same (order xs t r ys u s rest)

-- ---- fronts and limits

front_of : (xs ys : List Token) → IsFront (xs ++ ys) → IsFront xs
front_of xs ys h =
    let g = (file_ok (block_ok h.0)).grows (xs ++ ys) h.1 in
    (h.0, (file_ok (block_ok h.0)).shrinks xs (ys ++ g.rest) g.value (subst (λ (l : List Token). (file (block h.0)).text l g.value) (append_assoc xs ys g.rest) g.whole))

-- among tokens within the limits none passes one
never_over : (ys xs : List Token) (t : Token) (mid : List Token) (limit : Quantity) → AreWithin ys → ys ≡ (xs ++ t ∷ []) ++ mid → passed (counts xs) t ≡ Some limit → ⊥
never_over ys xs t mid limit within is over =
    let none : passed (counts xs) t ≡ None = none_at at_start xs t mid (subst AreWithin (is ∙ append_assoc xs (t ∷ []) mid) within) in
    cc

-- ---- any two faults are one

stops_once : (ts : List Token) (a b : Place) → IsUnexpected ts a → IsUnexpected ts b → a ≡ b
stops_once ts a b p q = elim (order p.stops.front p.token p.rest q.stops.front q.token q.rest (sym p.stops.split ∙ q.stops.split)) [
  | inl s ↦ p.at ∙ ap (λ (t : Token). t.place) s.token ∙ sym q.at
  | inr (inl e) ↦ absurd (p.stops.there (front_of (p.stops.front ++ p.token ∷ []) e.mid (subst IsFront e.is q.stops.before)))
  | inr (inr e) ↦ absurd (q.stops.there (front_of (q.stops.front ++ q.token ∷ []) e.mid (subst IsFront e.is p.stops.before)))
]

stops_or_ends : (ts : List Token) (a : Place) → IsUnexpected ts a → IsTooEarly ts → ⊥
stops_or_ends ts a p q =
    let cut = p.stops.split ∙ sym (append_assoc p.stops.front (p.token ∷ []) p.rest) in
    p.stops.there (front_of (p.stops.front ++ p.token ∷ []) p.rest (subst IsFront cut q.ends.front))

stops_or_passes : (ts : List Token) (a b : Place) (limit : Quantity) → IsUnexpected ts a → Passes ts limit b → ⊥
stops_or_passes ts a b limit p q = elim (order p.stops.front p.token p.rest q.front q.token q.rest (sym p.stops.split ∙ q.split)) [
  | inl s ↦ p.stops.there (subst (λ (l : List Token). IsFront (l ++ p.token ∷ [])) (sym s.front) (subst (λ (t : Token). IsFront (q.front ++ t ∷ [])) (sym s.token) q.begun))
  | inr (inl e) ↦ p.stops.there (front_of (p.stops.front ++ p.token ∷ []) e.mid (subst IsFront e.is (front_of q.front (q.token ∷ []) q.begun)))
  | inr (inr e) ↦ never_over p.stops.front q.front q.token e.mid limit p.within e.is q.passes
]

ends_or_passes : (ts : List Token) (b : Place) (limit : Quantity) → IsTooEarly ts → Passes ts limit b → ⊥
ends_or_passes ts b limit p q = never_over ts q.front q.token q.rest limit p.within (q.split ∙ sym (append_assoc q.front (q.token ∷ []) q.rest)) q.passes

record Over (limit other : Quantity) (a b : Place) : Type 0 where
  passed_is : limit ≡ other
  place_is : a ≡ b

passes_once : (ts : List Token) (limit other : Quantity) (a b : Place) → Passes ts limit a → Passes ts other b → Over limit other a b
passes_once ts limit other a b p q = elim (order p.front p.token p.rest q.front q.token q.rest (sym p.split ∙ q.split)) [
  | inl s ↦
      let one : passed (counts q.front) q.token ≡ Some limit = subst (λ (t : Token). passed (counts q.front) t ≡ Some limit) s.token (subst (λ (l : List Token). passed (counts l) p.token ≡ Some limit) s.front p.passes) in
      let two : passed (counts q.front) q.token ≡ Some other = q.passes in
      record { passed_is = cc (one, two); place_is = p.at ∙ ap (λ (t : Token). t.place) s.token ∙ sym q.at }
  | inr (inl e) ↦ absurd (never_over q.front p.front p.token e.mid limit q.within e.is p.passes)
  | inr (inr e) ↦ absurd (never_over p.front q.front q.token e.mid other p.within e.is q.passes)
]

-- what a fault is: no token goes on, or one passes a limit
data Kind (end : Place) (ts : List Token) : ParseFault → Type 0 where
  stops : (place : Place) → IsUnexpected ts place ⊎ (IsTooEarly ts × (place ≡ end)) → Kind end ts (fault.Unexpected place)
  deep : (place : Place) → Passes ts quantity.Nesting place → Kind end ts (fault.TooDeep place)
  over : (limit : Quantity) (place : Place) → (limit ≡ quantity.Nesting → ⊥) → Passes ts limit place → Kind end ts (fault.TooMany limit place)

kind : (end : Place) (ts : List Token) (f : ParseFault) → IsFault end ts f → (f ≡ fault.NoMemory → ⊥) → Kind end ts f
kind end ts (fault.Lex error) is some = absurd is
kind end ts (fault.Unexpected place) is some = stops place is
kind end ts (fault.TooDeep place) is some = deep place is
kind end ts (fault.TooMany limit place) is some = over limit place is.0 is.1
kind end ts fault.NoMemory is some = absurd (some refl)

stops_passes : (end : Place) (ts : List Token) (a b : Place) (limit : Quantity) → IsUnexpected ts a ⊎ (IsTooEarly ts × (a ≡ end)) → Passes ts limit b → ⊥
stops_passes end ts a b limit (inl p) q = stops_or_passes ts a b limit p q
stops_passes end ts a b limit (inr p) q = ends_or_passes ts b limit p.0 q

one_stop : (end : Place) (ts : List Token) (a b : Place) → IsUnexpected ts a ⊎ (IsTooEarly ts × (a ≡ end)) → IsUnexpected ts b ⊎ (IsTooEarly ts × (b ≡ end)) → a ≡ b
one_stop end ts a b (inl p) (inl q) = stops_once ts a b p q
one_stop end ts a b (inl p) (inr q) = absurd (stops_or_ends ts a p q.0)
one_stop end ts a b (inr p) (inl q) = absurd (stops_or_ends ts b q p.0)
one_stop end ts a b (inr p) (inr q) = p.1 ∙ sym q.1

one_kind : (end : Place) (ts : List Token) (f g : ParseFault) → Kind end ts f → Kind end ts g → f ≡ g
one_kind end ts f g (stops a p) (stops b q) = ap fault.Unexpected (one_stop end ts a b p q)
one_kind end ts f g (stops a p) (deep b q) = absurd (stops_passes end ts a b quantity.Nesting p q)
one_kind end ts f g (stops a p) (over limit b h q) = absurd (stops_passes end ts a b limit p q)
one_kind end ts f g (deep a p) (stops b q) = absurd (stops_passes end ts b a quantity.Nesting q p)
one_kind end ts f g (deep a p) (deep b q) = ap fault.TooDeep (passes_once ts quantity.Nesting quantity.Nesting a b p q).place_is
one_kind end ts f g (deep a p) (over limit b h q) = absurd (h (sym (passes_once ts quantity.Nesting limit a b p q).passed_is))
one_kind end ts f g (over limit a h p) (stops b q) = absurd (stops_passes end ts b a limit q p)
one_kind end ts f g (over limit a h p) (deep b q) = absurd (h (passes_once ts limit quantity.Nesting a b p q).passed_is)
one_kind end ts f g (over limit a h p) (over other b k q) = let o = passes_once ts limit other a b p q in cc (o.passed_is, o.place_is)

pub one_fault : (end : Place) (ts : List Token) (f g : ParseFault) → IsFault end ts f → IsFault end ts g → (f ≡ fault.NoMemory → ⊥) → (g ≡ fault.NoMemory → ⊥) → f ≡ g
one_fault end ts f g p q h k = one_kind end ts f g (kind end ts f p h) (kind end ts g q k)
