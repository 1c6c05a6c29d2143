-- A rank's part of the iterations, ascending, is its part of the offsets, descending.
use Rattle.std.proofs.Common.{◌≡◌, ℕ, zero, suc, ◌+◌, ℤ, pos, ◌+ℤ◌, ◌-ℤ◌, ◌≤ℤ◌, ◌<ℤ◌, Bool, true, false, ◌&&◌, ◌⊎◌, inl, inr, List, [], ◌∷◌, ◌++◌, refl, sym, ◌∙◌, ap, arith, append_assoc, int_le}
use Rattle.std.proofs.lemmas.Int.{ints}
use Rattle.pb_affine.specs.Values.{count_from, count_of, range}
use Rattle.pb_world.specs.Actions.{Kind}

-- the lists of these numbers, one after another
abbrev pub gathered : List ℤ → (ℤ → List Kind) → List Kind
gathered [] f = []
gathered (x ∷ xs) f = f x ++ gathered xs f

abbrev pub only_if : Bool → List Kind → List Kind
only_if true l = l
only_if false l = []

abbrev pub is_within : ℤ → ℤ → ℤ → Bool
is_within low high x = int_le low x && int_le x high

-- strictly descending, and below a number
abbrev pub IsBelow : ℤ → List ℤ → Type 0
IsBelow b [] = Unit {0}
IsBelow b (c ∷ cs) = (c <ℤ b) × IsBelow c cs

abbrev pub Descends : List ℤ → Type 0
Descends [] = Unit {0}
Descends (c ∷ cs) = IsBelow c cs

abbrev pub is_in : ℤ → List ℤ → Type 0
is_in x [] = ⊥
is_in x (y ∷ ys) = (x ≡ y) ⊎ is_in x ys

pub gathered_nothing : (n : ℕ) (a : ℤ) (f : ℤ → List Kind) → ((i : ℤ) → a ≤ℤ i → i <ℤ (a +ℤ pos n) → f i ≡ []) → gathered (count_from n a) f ≡ []
gathered_nothing zero a f h = refl
gathered_nothing (suc n) a f h =
    rw (h a (omega (arith, ints)) (omega (arith, ints)))
    (gathered_nothing n (a +ℤ pos 1) f (λ i l u. h i (omega (arith, ints, l)) (omega (arith, ints, u))))

gathered_split : (m n : ℕ) (a : ℤ) (f : ℤ → List Kind) → gathered (count_from (m + n) a) f ≡ gathered (count_from m a) f ++ gathered (count_from n (a +ℤ pos m)) f
gathered_split zero n a f = let e : a +ℤ pos 0 ≡ a = omega (arith, ints) in let e' : 0 + n ≡ n = omega arith in rw (e, e') refl
gathered_split (suc m) n a f =
    let e : a +ℤ pos (suc m) ≡ a +ℤ pos 1 +ℤ pos m = omega (arith, ints) in
    let e' : suc m + n ≡ suc (m + n) = omega arith in
    rw (e, e') (rw (gathered_split m n (a +ℤ pos 1) f) (sym (append_assoc (f a) _ _)))

pub count_of_is : (a : ℤ) → pos 0 ≤ℤ a → pos (count_of a) ≡ a
count_of_is a h = grind (arith, ints)

below_in : (y b : ℤ) (cs : List ℤ) → IsBelow b cs → is_in y cs → y <ℤ b
below_in y b [] d h = absurd h
below_in y b (c ∷ cs) d h = elim h [ inl e ↦ omega (arith, ints, d.0, e) | inr h' ↦ omega (arith, ints, d.0, below_in y c cs d.1 h') ]

pub descends : (c : ℤ) (cs : List ℤ) → IsBelow c cs → Descends cs
descends c [] h = tt
descends c (d ∷ cs) h = h.1

module _ (x high : ℤ) (g : ℤ → List Kind) where
  -- what the segment of c does
  abbrev pub picked : ℤ → ℤ → List Kind
  picked low c = only_if (is_within low high (x -ℤ c)) (g (x -ℤ c))

  -- an iteration without an offset has nothing
  abbrev pub Only : ℤ → List ℤ → Type 0
  Only low cs = (i : ℤ) → low ≤ℤ i → i ≤ℤ high → (g i ≡ []) ⊎ is_in (x -ℤ i) cs

  raised : (low c : ℤ) (cs : List ℤ) → low ≤ℤ (x -ℤ c) → IsBelow c cs → gathered cs (picked (x -ℤ c +ℤ pos 1)) ≡ gathered cs (picked low)
  raised low c [] le d = refl
  raised low c (b ∷ cs) le d =
      let e1 : int_le (x -ℤ c +ℤ pos 1) (x -ℤ b) ≡ true = grind (arith, ints, d.0) in
      let e2 : int_le low (x -ℤ b) ≡ true = grind (arith, ints, d.0) in
      rw (e1, e2) (ap (λ l. only_if (int_le (x -ℤ b) high) (g (x -ℤ b)) ++ l) (raised low c cs le (weaker b c cs d.0 d.1)))
    where
      weaker : (b c : ℤ) (cs : List ℤ) → b <ℤ c → IsBelow b cs → IsBelow c cs
      weaker b c [] h d = tt
      weaker b c (a ∷ cs) h d = (omega (arith, ints, d.0), d.1)

  pub in_order : (cs : List ℤ) (low : ℤ) → Descends cs → Only low cs → gathered (range low high) g ≡ gathered cs (picked low)
  in_order [] low d only =
      gathered_nothing (count_of (high +ℤ pos 1 -ℤ low)) low g
      (λ i l u. elim (only i l (upto i l u)) [ inl e ↦ e | inr h ↦ absurd h ])
    where
      upto : (i : ℤ) → low ≤ℤ i → i <ℤ (low +ℤ pos (count_of (high +ℤ pos 1 -ℤ low))) → i ≤ℤ high
      upto i l u = grind (arith, ints)
  in_order (c ∷ cs) low d only = at (is_within low high (x -ℤ c)) refl (in_order cs low (descends c cs d)) (in_order cs (x -ℤ c +ℤ pos 1) (descends c cs d))
    where
      at : (b : Bool) → is_within low high (x -ℤ c) ≡ b →
          (Only low cs → gathered (range low high) g ≡ gathered cs (picked low)) →
          (Only (x -ℤ c +ℤ pos 1) cs → gathered (range (x -ℤ c +ℤ pos 1) high) g ≡ gathered cs (picked (x -ℤ c +ℤ pos 1))) →
          gathered (range low high) g ≡ only_if (is_within low high (x -ℤ c)) (g (x -ℤ c)) ++ gathered cs (picked low)
      at false e ih _ = rw e (ih (λ i l u. elim (only i l u) [ inl h ↦ inl h | inr h ↦ elim h [ inl h' ↦ absurd (outside i l u h') | inr h' ↦ inr h' ] ]))
        where
          outside : (i : ℤ) → low ≤ℤ i → i ≤ℤ high → x -ℤ i ≡ c → ⊥
          outside i l u h = grind (arith, ints)
      at true e _ ih =
          let l : low ≤ℤ (x -ℤ c) = grind (arith, ints) in
          let u : (x -ℤ c) ≤ℤ high = grind (arith, ints) in
          let m = count_of (x -ℤ c -ℤ low) in
          let n = count_of (high +ℤ pos 1 -ℤ (x -ℤ c +ℤ pos 1)) in
          let m' : pos m ≡ x -ℤ c -ℤ low = count_of_is _ (omega (arith, ints, l)) in
          let n' : pos n ≡ high +ℤ pos 1 -ℤ (x -ℤ c +ℤ pos 1) = count_of_is _ (omega (arith, ints, u)) in
          let k' : pos (count_of (high +ℤ pos 1 -ℤ low)) ≡ high +ℤ pos 1 -ℤ low = count_of_is _ (omega (arith, ints, l, u)) in
          let k : count_of (high +ℤ pos 1 -ℤ low) ≡ m + suc n = omega (arith, ints, m', n', k') in
          let start : low +ℤ pos m ≡ x -ℤ c = omega (arith, ints, m') in
          let before : gathered (count_from m low) g ≡ [] = gathered_nothing m low g (λ i a b. early i a (omega (arith, ints, b, m')) u (only i a (omega (arith, ints, b, m', u)))) in
          let after : gathered (range (x -ℤ c +ℤ pos 1) high) g ≡ gathered cs (picked low) =
          ih (λ i a b. late i a (only i (omega (arith, ints, a, l)) b)) ∙ raised low c cs l d in
          rw (e, k) (rw (gathered_split m (suc n) low g) (rw (before, start) (ap (λ s. g (x -ℤ c) ++ s) after)))
        where
          early : (i : ℤ) → low ≤ℤ i → i <ℤ (x -ℤ c) → (x -ℤ c) ≤ℤ high → (g i ≡ []) ⊎ is_in (x -ℤ i) (c ∷ cs) → g i ≡ []
          early i a b u (inl h) = h
          early i a b u (inr h) = elim h [ inl h' ↦ absurd (omega (arith, ints, h', b)) | inr h' ↦ absurd (omega (arith, ints, below_in (x -ℤ i) c cs d h', b)) ]

          late : (i : ℤ) → (x -ℤ c +ℤ pos 1) ≤ℤ i → (g i ≡ []) ⊎ is_in (x -ℤ i) (c ∷ cs) → (g i ≡ []) ⊎ is_in (x -ℤ i) cs
          late i a (inl h) = inl h
          late i a (inr h) = elim h [ inl h' ↦ absurd (omega (arith, ints, h', a)) | inr h' ↦ inr h' ]
