-- Reading things one after the other, as a loop does.
use Rattle.std.proofs.Common.{◌≡◌, ℕ, zero, suc, ◌-◌, ◌+◌, ◌≤◌, ◌<◌, Bool, true, false, List, [], ◌∷◌, ◌++◌, Result, Ok, Err, refl, sym, ap, ◌∙◌, append_assoc, arith}
use Rattle.std.proofs.lemmas.List.{append-nil}
use Rattle.pb_text.specs.declared.token.Token.{Token}
use Rattle.pb_parse.specs.declared.cursor.Stop.{Stop}
use Rattle.pb_parse.specs.declared.cursor.Stop.TheVariants as stop
use Rattle.pb_syntax.specs.Reading.{Reader, next, starts, repeat_at, with_front}
use Rattle.pb_parse.specs.Gives.{StopsAt}

module _ {A : Type 0} (test : Token → Bool) (one : Reader A) where
  regroup : (front : List A) (x : A) (read : Result (List A × List Token) (List Token)) → with_front front (next read (λ xs rest. Ok (x ∷ xs, rest))) ≡ with_front (front ++ x ∷ []) read
  regroup front x (Ok others) = ap (λ (xs : List A). Ok (xs, others.1)) (sym (append_assoc front (x ∷ []) others.0))
  regroup front x (Err p) = refl

  -- one thing more
  pub read_next : (front : List A) (count i : ℕ) (ts : List Token) (x : A) (after : List Token) (total : Result (List A × List Token) (List Token)) → i < count → starts test ts ≡ true → one ts ≡ Ok (x, after)
      → with_front front (repeat_at test one (count - i) ts) ≡ total → with_front (front ++ x ∷ []) (repeat_at test one (count - (i + 1)) after) ≡ total
  read_next front count i ts x after total lt here h so_far =
      let k : count - i ≡ suc (count - (i + 1)) = omega arith in
      let step : with_front front (repeat_at test one (count - i) ts) ≡ with_front (front ++ x ∷ []) (repeat_at test one (count - (i + 1)) after) = rw (k, here, h) (regroup front x (repeat_at test one (count - (i + 1)) after)) in
      sym step ∙ so_far

  -- a thing that is at fault
  pub read_fault : (e : Stop) (front : List A) (count i : ℕ) (ts rest : List Token) (total : Result (List A × List Token) (List Token)) → i < count → starts test ts ≡ true → StopsAt e rest (one ts)
      → with_front front (repeat_at test one (count - i) ts) ≡ total → StopsAt e rest total
  read_fault stop.NoMemory front count i ts rest total lt here h so_far = tt
  read_fault stop.Unexpected front count i ts rest total lt here h so_far =
      let k : count - i ≡ suc (count - (i + 1)) = omega arith in
      let step : with_front front (repeat_at test one (count - i) ts) ≡ Err rest = rw (k, here, h) refl in
      sym so_far ∙ step

  -- no further thing
  pub read_none : (front : List A) (count i : ℕ) (ts : List Token) (total : Result (List A × List Token) (List Token)) → starts test ts ≡ false → with_front front (repeat_at test one (count - i) ts) ≡ total → total ≡ Ok (front, ts)
  read_none front count i ts total here so_far = sym so_far ∙ stops (count - i)
    where
      stops : (n : ℕ) → with_front front (repeat_at test one n ts) ≡ Ok (front, ts)
      stops zero = ap (λ (xs : List A). Ok (xs, ts)) (append-nil front)
      stops (suc n) = rw here (ap (λ (xs : List A). Ok (xs, ts)) (append-nil front))

  -- the count is used up
  pub read_all : (front : List A) (count i : ℕ) (ts : List Token) (total : Result (List A × List Token) (List Token)) → count ≤ i → with_front front (repeat_at test one (count - i) ts) ≡ total → total ≡ Ok (front, ts)
  read_all front count i ts total le so_far =
      let k : count - i ≡ 0 = omega arith in
      let step : with_front front (repeat_at test one (count - i) ts) ≡ Ok (front, ts) = rw k (ap (λ (xs : List A). Ok (xs, ts)) (append-nil front)) in
      sym so_far ∙ step

pub at_unexpected : {A : Type 0} (e : Stop) (rest : List Token) (read : Result (A × List Token) (List Token)) → e ≡ stop.Unexpected → StopsAt e rest read → read ≡ Err rest
at_unexpected stop.Unexpected rest read e h = h
at_unexpected stop.NoMemory rest read e h = cc
