-- One number marked or unmarked.
use Rattle.std.proofs.Common.{◌≡◌, ◌<◌, ◌≤◌, ◌⊎◌, inl, inr, ℕ, zero, suc, ◌+◌, ◌-◌, List, [], ◌∷◌, ◌++◌, length, take, drop, get_or, set, replicate, ap, ◌∙◌, sym, refl, subst, Bool, true, false, nat_eq, nat_lt, if◌then◌else◌, arith, add-one, zero-add, suc-add, length-append}
use Rattle.std.specs.List.{insert, remove}
use Rattle.std.proofs.lemmas.Bool.{eq-eqb, eqb-true, eqb-false, cases_lt, and_right}
use Rattle.std.proofs.Math.Seq.{take-append_seam, drop-append_seam, drop-append-add, get_or-append_seam}
use Rattle.std.proofs.lemmas.List.{get_or-append-add, get_or-replicate, get_or-set_same, get_or-set_other, get_or_read}
use Rattle.std.proofs.Math.ListN.{get_or-append}
use Rattle.std.proofs.lemmas.List.Edits.{length-insert}
use Rattle.pb_sim_ready.specs.Kept.{kept, put, has, IsPlace, IsRising}
use Rattle.pb_sim_ready.specs.Listed.{marked}

glue : (xs ys zs : List ℕ) (s : ℕ) (c : Bool) → xs ≡ ys ++ zs → (if c then s ∷ xs else xs) ≡ (if c then s ∷ ys else ys) ++ zs
glue xs ys zs s true h = ap (λ z. s ∷ z) h
glue xs ys zs s false h = h

split : (f : ℕ → Bool) (a b s : ℕ) → kept f (a + b) s ≡ kept f a s ++ kept f b (a + s)
split f zero b s = ap (λ n. kept f n s) (zero-add b) ∙ ap (λ z. kept f b z) (sym (zero-add s))
split f (suc a) b s =
    let e : a + suc s ≡ suc a + s = omega arith in
    ap (λ n. kept f n s) (suc-add a b) ∙ glue (kept f (a + b) (suc s)) (kept f a (suc s)) (kept f b (a + suc s)) s (f s) (split f a b (suc s)) ∙ ap (λ z. kept f (suc a) s ++ kept f b z) e

by_case : (xs : List ℕ) (s m : ℕ) (b : Bool) → ((k : ℕ) → k < length xs → get_or xs k 0 < m) → s < m → (k : ℕ) → k < length (if b then s ∷ xs else xs) → get_or (if b then s ∷ xs else xs) k 0 < m
by_case xs s m true ih lt zero h = lt
by_case xs s m true ih lt (suc k) h = ih k (omega (arith, h))
by_case xs s m false ih lt k h = ih k h

under : (f : ℕ → Bool) (a s k : ℕ) → k < length (kept f a s) → get_or (kept f a s) k 0 < a + s
under f zero s k h = absurd (omega (arith, h))
under f (suc a) s k h =
    by_case (kept f a (suc s)) s (suc a + s) (f s) (λ (j : ℕ) (l : j < length (kept f a (suc s))). let e = under f a (suc s) j l in omega (arith, e)) (omega arith) k h

by_over : (xs : List ℕ) (s : ℕ) (b : Bool) → ((k : ℕ) → k < length xs → suc s ≤ get_or xs k 0) → (k : ℕ) → k < length (if b then s ∷ xs else xs) → s ≤ get_or (if b then s ∷ xs else xs) k 0
by_over xs s true ih zero h = omega arith
by_over xs s true ih (suc k) h = let l : k < length xs = omega (arith, h) in let e = ih k l in omega (arith, e)
by_over xs s false ih k h = let e = ih k h in omega (arith, e)

over : (f : ℕ → Bool) (a s k : ℕ) → k < length (kept f a s) → s ≤ get_or (kept f a s) k 0
over f zero s k h = absurd (omega (arith, h))
over f (suc a) s k h = by_over (kept f a (suc s)) s (f s) (λ (j : ℕ) (l : j < length (kept f a (suc s))). over f a (suc s) j l) k h

pick : (c d : Bool) (xs ys : List ℕ) (s : ℕ) → c ≡ d → xs ≡ ys → (if c then s ∷ xs else xs) ≡ (if d then s ∷ ys else ys)
pick c d xs ys s e h = cc

same : (f g : ℕ → Bool) (a s : ℕ) → ((k : ℕ) → s ≤ k → k < a + s → f k ≡ g k) → kept f a s ≡ kept g a s
same f g zero s h = refl
same f g (suc a) s h =
    pick (f s) (g s) (kept f a (suc s)) (kept g a (suc s)) s (h s (omega arith) (omega arith))
    (same f g a (suc s) (λ (k : ℕ) (l : suc s ≤ k) (u : k < a + suc s). h k (omega (arith, l)) (omega (arith, u))))

apart : (f : ℕ → Bool) (r k : ℕ) (b : Bool) → nat_eq k r ≡ false → put f r b k ≡ f k
apart f r k b e = ap (λ z. if z then b else f k) e

at_it : (f : ℕ → Bool) (r : ℕ) (b : Bool) → put f r b r ≡ b
at_it f r b = ap (λ z. if z then b else f r) (eq-eqb r r refl)

not_same : (k r : ℕ) → (k < r) ⊎ (r < k) → nat_eq k r ≡ false
not_same k r h = grind (arith, h)

whole : (g : ℕ → Bool) (r m : ℕ) → kept g (r + suc m) 0 ≡ kept g r 0 ++ (if g r then r ∷ kept g m (suc r) else kept g m (suc r))
whole g r m = let e : r + 0 ≡ r = omega arith in split g r (suc m) 0 ∙ ap (λ z. kept g r 0 ++ kept g (suc m) z) e

changed : (f : ℕ → Bool) (r m : ℕ) (b : Bool) → kept (put f r b) (r + suc m) 0 ≡ kept f r 0 ++ (if b then r ∷ kept f m (suc r) else kept f m (suc r))
changed f r m b =
    let low : kept (put f r b) r 0 ≡ kept f r 0 = same (put f r b) f r 0 (λ (k : ℕ) (l : 0 ≤ k) (u : k < r + 0). apart f r k b (not_same k r (inl (omega (arith, u))))) in
    let high : kept (put f r b) m (suc r) ≡ kept f m (suc r) = same (put f r b) f m (suc r) (λ (k : ℕ) (l : suc r ≤ k) (u : k < m + suc r). apart f r k b (not_same k r (inr (omega (arith, l))))) in
    whole (put f r b) r m ∙ ap (λ z. z ++ (if put f r b r then r ∷ kept (put f r b) m (suc r) else kept (put f r b) m (suc r))) low
    ∙ ap (λ z. kept f r 0 ++ z) (pick (put f r b r) b _ _ r (at_it f r b) high)

-- the place of r is behind what is below it
placed : (xs ys : List ℕ) (r at : ℕ) → IsPlace (xs ++ ys) r at → ((k : ℕ) → k < length xs → get_or xs k 0 < r) → ((k : ℕ) → k < length ys → r ≤ get_or ys k 0) → at ≡ length xs
placed xs ys r at p low high =
    let a : at ≤ length xs = elim (cases_lt (length xs) at) [ inl lt ↦ absurd (too_high lt) | inr le ↦ le ] in
    let b : length xs ≤ at = elim (cases_lt at (length xs)) [ inl lt ↦ absurd (too_low lt) | inr le ↦ le ] in
    omega (arith, a, b) where
      too_low : at < length xs → ⊥
      too_low lt =
          let e : get_or (xs ++ ys) at 0 ≡ get_or xs at 0 = get_or-append xs ys 0 at lt in
          let l : get_or xs at 0 < r = low at lt in
          let n : length (xs ++ ys) ≡ length xs + length ys = length-append xs ys in
          let u : r ≤ get_or (xs ++ ys) at 0 = p.above at (omega arith) (omega (arith, lt, n)) in
          omega (arith, e, l, u)

      too_high : length xs < at → ⊥
      too_high lt =
          let n : length (xs ++ ys) ≡ length xs + length ys = length-append xs ys in
          let w : at ≤ length (xs ++ ys) = p.within in
          let e : get_or (xs ++ ys) (length xs + 0) 0 ≡ get_or ys 0 0 = get_or-append-add xs ys 0 0 in
          let l : get_or (xs ++ ys) (length xs + 0) 0 < r = p.below (length xs + 0) (omega (arith, lt)) in
          let u : r ≤ get_or ys 0 0 = high 0 (omega (arith, lt, n, w)) in
          omega (arith, e, l, u)

there : (a c : List ℕ) (at r : ℕ) → at ≡ length a → has (a ++ r ∷ c) at r ≡ true
there a c at r e = rw e here where
  here : has (a ++ r ∷ c) (length a) r ≡ true
  here =
      let n : length (a ++ r ∷ c) ≡ length a + length (r ∷ c) = length-append a (r ∷ c) in
      let lt : nat_lt (length a) (length (a ++ r ∷ c)) ≡ true = grind (arith, n) in
      let is : nat_eq (get_or (a ++ r ∷ c) (length a) 0) r ≡ true = eq-eqb _ r (get_or-append_seam a r c 0) in
      rw (lt, is) refl

away : (a c : List ℕ) (at r : ℕ) → at ≡ length a → ((k : ℕ) → k < length c → suc r ≤ get_or c k 0) → has (a ++ c) at r ≡ false
away a c at r e high = rw e (off (cases_lt (length a) (length (a ++ c)))) where
  off : (length a < length (a ++ c)) ⊎ (length (a ++ c) ≤ length a) → has (a ++ c) (length a) r ≡ false
  off (inl lt) =
      let n : length (a ++ c) ≡ length a + length c = length-append a c in
      let z : get_or (a ++ c) (length a + 0) 0 ≡ get_or c 0 0 = get_or-append-add a c 0 0 in
      let u : suc r ≤ get_or c 0 0 = high 0 (omega (arith, lt, n)) in
      let w : length a + 0 ≡ length a = omega arith in
      let q : get_or (a ++ c) (length a) 0 ≡ get_or c 0 0 = ap (λ i. get_or (a ++ c) i 0) (sym w) ∙ z in
      let g : nat_eq (get_or (a ++ c) (length a) 0) r ≡ false = not_same _ r (inr (omega (arith, q, u))) in
      and_right _ _ g
  off (inr le) = let g : nat_lt (length a) (length (a ++ c)) ≡ false = grind (arith, le) in rw g refl

-- what the list is after an edit at the place of r
abbrev pub edited : List ℕ → ℕ → ℕ → Bool → List ℕ
edited xs at r can = if has xs at r then (if can then xs else remove xs at) else (if can then insert xs at r else xs)

edit_there : (a c : List ℕ) (at r : ℕ) (can : Bool) → at ≡ length a → edited (a ++ r ∷ c) at r can ≡ a ++ (if can then r ∷ c else c)
edit_there a c at r can e = let h : has (a ++ r ∷ c) at r ≡ true = there a c at r e in rw h (rw e (by can)) where
  by : (b : Bool) → (if b then a ++ r ∷ c else remove (a ++ r ∷ c) (length a)) ≡ a ++ (if b then r ∷ c else c)
  by true = refl
  by false = cut (take-append_seam a (r ∷ c)) (ap (λ z. drop z (a ++ r ∷ c)) (sym (add-one (length a))) ∙ drop-append-add a (r ∷ c) 1) where
    cut : take (length a) (a ++ r ∷ c) ≡ a → drop (suc (length a)) (a ++ r ∷ c) ≡ c → remove (a ++ r ∷ c) (length a) ≡ a ++ c
    cut h k = rw (h, k) refl

edit_away : (a c : List ℕ) (at r : ℕ) (can : Bool) → at ≡ length a → ((k : ℕ) → k < length c → suc r ≤ get_or c k 0) → edited (a ++ c) at r can ≡ a ++ (if can then r ∷ c else c)
edit_away a c at r can e high = let h : has (a ++ c) at r ≡ false = away a c at r e high in rw h (rw e (by can)) where
  by : (b : Bool) → (if b then insert (a ++ c) (length a) r else a ++ c) ≡ a ++ (if b then r ∷ c else c)
  by true = let h : take (length a) (a ++ c) ≡ a = take-append_seam a c in let k : drop (length a) (a ++ c) ≡ c = drop-append_seam a c in rw (h, k) refl
  by false = refl

edit_by : (f : ℕ → Bool) (xs : List ℕ) (at r m : ℕ) (can b : Bool) → f r ≡ b → IsPlace xs r at → xs ≡ kept f r 0 ++ (if b then r ∷ kept f m (suc r) else kept f m (suc r)) →
    edited xs at r can ≡ kept f r 0 ++ (if can then r ∷ kept f m (suc r) else kept f m (suc r))
edit_by f xs at r m can true e p h =
    let a = kept f r 0 in let c = kept f m (suc r) in
    let low : (k : ℕ) → k < length (kept f r 0) → get_or (kept f r 0) k 0 < r = λ (k : ℕ) (l : k < length (kept f r 0)). let u = under f r 0 k l in omega (arith, u) in
    let high : (k : ℕ) → k < length (r ∷ kept f m (suc r)) → r ≤ get_or (r ∷ kept f m (suc r)) k 0 = λ (k : ℕ) (l : k < length (r ∷ kept f m (suc r))). by_over (kept f m (suc r)) r true (λ (j : ℕ) (q : j < length (kept f m (suc r))). over f m (suc r) j q) k l in
    let here : at ≡ length (kept f r 0) = placed (kept f r 0) (r ∷ kept f m (suc r)) r at (rw h at p) low high in
    ap (λ z. edited z at r can) h ∙ edit_there (kept f r 0) (kept f m (suc r)) at r can here
edit_by f xs at r m can false e p h =
    let low : (k : ℕ) → k < length (kept f r 0) → get_or (kept f r 0) k 0 < r = λ (k : ℕ) (l : k < length (kept f r 0)). let u = under f r 0 k l in omega (arith, u) in
    let high : (k : ℕ) → k < length (kept f m (suc r)) → r ≤ get_or (kept f m (suc r)) k 0 = λ (k : ℕ) (l : k < length (kept f m (suc r))). let u = over f m (suc r) k l in omega (arith, u) in
    let here : at ≡ length (kept f r 0) = placed (kept f r 0) (kept f m (suc r)) r at (rw h at p) low high in
    ap (λ z. edited z at r can) h ∙ edit_away (kept f r 0) (kept f m (suc r)) at r can here (λ (k : ℕ) (l : k < length (kept f m (suc r))). over f m (suc r) k l)

pub edit_is : (f : ℕ → Bool) (n : ℕ) (xs : List ℕ) (at r : ℕ) (can : Bool) → IsPlace xs r at → r < n → xs ≡ kept f n 0 → edited xs at r can ≡ kept (put f r can) n 0
edit_is f n xs at r can p lt h =
    let m : ℕ = n - suc r in
    let e : n ≡ r + suc m = omega (arith, lt) in
    edit_by f xs at r m can (f r) refl p (h ∙ ap (λ z. kept f z 0) e ∙ whole f r m) ∙ sym (ap (λ z. kept (put f r can) z 0) e ∙ changed f r m can)

pub edit_done : (f : ℕ → Bool) (n : ℕ) (xs ys : List ℕ) (at r : ℕ) (can t : Bool) → IsPlace xs r at → t ≡ has xs at r →
    ys ≡ (if t then (if can then xs else remove xs at) else (if can then insert xs at r else xs)) → r < n → xs ≡ kept f n 0 → ys ≡ kept (put f r can) n 0
edit_done f n xs ys at r can t p e is lt h =
    is ∙ ap (λ z. if z then (if can then xs else remove xs at) else (if can then insert xs at r else xs)) e ∙ edit_is f n xs at r can p lt h

by_rising : (xs : List ℕ) (s : ℕ) (b : Bool) → ((i j : ℕ) → i ≤ j → j < length xs → get_or xs i 0 ≤ get_or xs j 0) → ((k : ℕ) → k < length xs → suc s ≤ get_or xs k 0) → (i j : ℕ) → i ≤ j → j < length (if b then s ∷ xs else xs) → get_or (if b then s ∷ xs else xs) i 0 ≤ get_or (if b then s ∷ xs else xs) j 0
by_rising xs s true ih up zero zero e h = omega arith
by_rising xs s true ih up zero (suc j) e h = let l : j < length xs = omega (arith, h) in let o = up j l in omega (arith, o)
by_rising xs s true ih up (suc i) zero e h = absurd (omega (arith, e))
by_rising xs s true ih up (suc i) (suc j) e h = ih i j (omega (arith, e)) (omega (arith, h))
by_rising xs s false ih up i j e h = ih i j e h

pub rising : (f : ℕ → Bool) (a s i j : ℕ) → i ≤ j → j < length (kept f a s) → get_or (kept f a s) i 0 ≤ get_or (kept f a s) j 0
rising f zero s i j e h = absurd (omega (arith, h))
rising f (suc a) s i j e h =
    by_rising (kept f a (suc s)) s (f s) (λ (k l : ℕ) (p : k ≤ l) (q : l < length (kept f a (suc s))). rising f a (suc s) k l p q) (λ (k : ℕ) (l : k < length (kept f a (suc s))). over f a (suc s) k l) i j e h

pub rising_of : (f : ℕ → Bool) (n : ℕ) (xs : List ℕ) → xs ≡ kept f n 0 → IsRising xs
rising_of f n xs e i j le h = rw e (rising f n 0 i j le (rw e at h))

by_short : (xs : List ℕ) (s a : ℕ) (b : Bool) → length xs ≤ a → length (if b then s ∷ xs else xs) ≤ suc a
by_short xs s a true h = omega (arith, h)
by_short xs s a false h = omega (arith, h)

-- no more than there are numbers
pub short : (f : ℕ → Bool) (a s : ℕ) → length (kept f a s) ≤ a
short f zero s = omega arith
short f (suc a) s = by_short (kept f a (suc s)) s a (f s) (short f a (suc s))

behind : (xs ys : List ℕ) (s : ℕ) → ((k : ℕ) → k < length ys → suc s ≤ get_or ys k 0) → s ∷ xs ≡ ys → ⊥
behind xs [] s high e = absurd cc
behind xs (y ∷ ys) s high e = let u : suc s ≤ y = high 0 (omega arith) in let q : s ≡ y = cc in omega (arith, u, q)

peel : (xs ys : List ℕ) (s : ℕ) (c d : Bool) → ((k : ℕ) → k < length xs → suc s ≤ get_or xs k 0) → ((k : ℕ) → k < length ys → suc s ≤ get_or ys k 0) → (if c then s ∷ xs else xs) ≡ (if d then s ∷ ys else ys) → (c ≡ d) × (xs ≡ ys)
peel xs ys s true true a b e = (refl, cc)
peel xs ys s true false a b e = absurd (behind xs ys s b e)
peel xs ys s false true a b e = absurd (behind ys xs s a (sym e))
peel xs ys s false false a b e = (refl, e)

tell : (f g : ℕ → Bool) (s k : ℕ) → f s ≡ g s → (suc s ≤ k → f k ≡ g k) → s ≤ k → f k ≡ g k
tell f g s k here above lo = elim (cases_lt s k) [
  | inl lt ↦ above (omega (arith, lt))
  | inr le ↦ let is : s ≡ k = omega (arith, lo, le) in subst (λ (j : ℕ). f j ≡ g j) is here
]

-- the list tells of each number whether it has a mark
told : (f g : ℕ → Bool) (n s k : ℕ) → kept f n s ≡ kept g n s → s ≤ k → k < n + s → f k ≡ g k
told f g zero s k e lo hi = absurd (omega (arith, lo, hi))
told f g (suc n) s k e lo hi =
    let p : (f s ≡ g s) × (kept f n (suc s) ≡ kept g n (suc s)) = peel (kept f n (suc s)) (kept g n (suc s)) s (f s) (g s) (λ (j : ℕ) (l : j < length (kept f n (suc s))). over f n (suc s) j l) (λ (j : ℕ) (l : j < length (kept g n (suc s))). over g n (suc s) j l) e in
    tell f g s k p.0 (λ (l : suc s ≤ k). told f g n (suc s) k p.1 l (omega (arith, hi))) lo

-- what is read at a number's place among the marks
pub mark_read : (f : ℕ → Bool) (marks : List Bool) (n : ℕ) (xs : List ℕ) (k : ℕ) (b : Bool) → b ≡ get_or marks k b → length marks ≡ n → xs ≡ kept (marked marks) n 0 → k < n → xs ≡ kept f n 0 → b ≡ f k
mark_read f marks n xs k b at each is lt h =
    get_or_read marks k b (omega (arith, each, lt)) at false ∙ told (marked marks) f n 0 k (sym is ∙ h) (omega arith) (omega (arith, lt))

-- a mark that stands may be made again
pub put_again : (f : ℕ → Bool) (n r : ℕ) (b : Bool) → f r ≡ b → kept f n 0 ≡ kept (put f r b) n 0
put_again f n r b is = same f (put f r b) n 0 (λ (k : ℕ) (l : 0 ≤ k) (u : k < n + 0). by k (nat_eq k r) refl) where
  by : (k : ℕ) (c : Bool) → nat_eq k r ≡ c → f k ≡ (if nat_eq k r then b else f k)
  by k true e = rw e (ap f (eqb-true k r e) ∙ is)
  by k false e = rw e refl

-- the marks after one was set
pub put_set : (marks : List Bool) (n r : ℕ) (b : Bool) → length marks ≡ n → r < n → kept (put (marked marks) r b) n 0 ≡ kept (marked (set marks r b)) n 0
put_set marks n r b each lt = same (put (marked marks) r b) (marked (set marks r b)) n 0 (λ (k : ℕ) (l : 0 ≤ k) (u : k < n + 0). by k (nat_eq k r) refl) where
  by : (k : ℕ) (c : Bool) → nat_eq k r ≡ c → (if nat_eq k r then b else get_or marks k false) ≡ get_or (set marks r b) k false
  by k true e = rw e (sym (ap (λ j. get_or (set marks r b) j false) (eqb-true k r e) ∙ get_or-set_same marks r b false (omega (arith, each, lt))))
  by k false e = rw e (sym (get_or-set_other marks r k b false (eqb-false k r e)))

-- where a number is put in, there is room for it
pub room_left : (f : ℕ → Bool) (n : ℕ) (xs : List ℕ) (at r : ℕ) → IsPlace xs r at → has xs at r ≡ false → r < n → xs ≡ kept f n 0 → length xs < n
room_left f n xs at r p away lt h =
    let e : (if has xs at r then xs else insert xs at r) ≡ kept (put f r true) n 0 = edit_is f n xs at r true p lt h in
    let d : insert xs at r ≡ kept (put f r true) n 0 = rw away at e in
    let w : at ≤ length xs = p.within in
    let l : length (insert xs at r) ≡ length xs + 1 = length-insert xs at r w in
    let u : length (kept (put f r true) n 0) ≤ n = short (put f r true) n 0 in
    let z : length (insert xs at r) ≡ length (kept (put f r true) n 0) = ap length d in
    omega (arith, l, u, z)

pub none_kept : (a s : ℕ) → kept (λ k. false) a s ≡ []
none_kept zero s = refl
none_kept (suc a) s = none_kept a (suc s)

-- where no number has a mark
pub no_marks : (n : ℕ) (marks : List Bool) → marks ≡ replicate n false → [] ≡ kept (marked marks) n 0
no_marks n marks is = sym (ap (λ m. kept (marked m) n 0) is ∙ same (marked (replicate n false)) (λ k. false) n 0 (λ (k : ℕ) (l : 0 ≤ k) (u : k < n + 0). get_or-replicate n k false false (omega (arith, u))) ∙ none_kept n 0)
