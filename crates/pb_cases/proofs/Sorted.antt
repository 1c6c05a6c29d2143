-- A number put into an ascending list.
use Rattle.std.proofs.Common.{◌≡◌, ◌≢◌, ℕ, ◌+◌, ◌-◌, ◌<◌, ◌≤◌, ℤ, pos, ◌≤ℤ◌, ◌<ℤ◌, ◌⊎◌, inl, inr, List, [], ◌∷◌, zero, suc, length, get_or, refl, sym, ◌∙◌, subst, arith}
use Rattle.std.proofs.lemmas.Int.{ints}
use Rattle.std.specs.List.{insert}
use Rattle.std.proofs.lemmas.List.Edits.{length-insert, get_or-insert_below, get_or-insert_at, get_or-insert_above}
use Rattle.pb_affine.specs.declared.range.NRange.{NRange}
use Rattle.pb_cases.specs.Numbers.{IsAscending, nth}
use Rattle.pb_cases.specs.Breakpoints.{IsInRange}
use Rattle.pb_cases.specs.Building.{IsAdded, IsOneOf}

pub less_or_same : (j k : ℕ) → j < k + 1 → (j ≡ k) ⊎ (j < k)
less_or_same j k h = grind arith

pub place_up : (xs : List ℤ) (m : ℤ) (mid : ℕ) → IsAscending xs → mid < length xs → nth xs mid <ℤ m → (j : ℕ) → j < mid + 1 → nth xs j <ℤ m
place_up xs m mid up lt less j h = elim (less_or_same j mid h) [
  | inl e ↦ subst (λ k. nth xs k <ℤ m) (sym e) less
  | inr below ↦ let l = up.below j mid below lt in omega (arith, ints, l, less)
]

pub place_down : (xs : List ℤ) (m : ℤ) (mid : ℕ) → IsAscending xs → m ≤ℤ nth xs mid → (j : ℕ) → mid ≤ j → j < length xs → m ≤ℤ nth xs j
place_down xs m mid up le j h lt = let h1 : mid < j + 1 = omega arith in elim (less_or_same mid j h1) [
  | inl e ↦ subst (λ k. m ≤ℤ nth xs k) e le
  | inr above ↦ let l = up.below mid j above lt in omega (arith, ints, l, le)
]

not_same : (a b : ℤ) → a ≤ℤ b → b ≢ a → a <ℤ b
not_same a b le ne = grind (arith, ints)

pub beyond : (xs : List ℤ) (m : ℤ) (i : ℕ) → IsAscending xs → ((j : ℕ) → i ≤ j → j < length xs → m ≤ℤ nth xs j) → (i < length xs → nth xs i ≢ m) → (j : ℕ) → i ≤ j → j < length xs → m <ℤ nth xs j
beyond xs m i up above other j le lt = let h1 : i < j + 1 = omega arith in elim (less_or_same i j h1) [
  | inl e ↦ let i_lt : i < length xs = omega arith in let i_le : i ≤ i = omega arith in subst (λ k. m <ℤ nth xs k) e (not_same m (nth xs i) (above i i_le i_lt) (other i_lt))
  | inr less ↦ let i_lt : i < length xs = omega arith in let i_le : i ≤ i = omega arith in let l = up.below i j less lt in let g = above i i_le i_lt in omega (arith, ints, l, g)
]

-- what stands at a place of the longer list
pub data IsSeen (xs : List ℤ) (m : ℤ) (i j : ℕ) (y : ℤ) : Type 0 where
  before : j < i → y ≡ nth xs j → IsSeen xs m i j y
  here : j ≡ i → y ≡ m → IsSeen xs m i j y
  later : (k : ℕ) → j ≡ k + 1 → i ≤ k → y ≡ nth xs k → IsSeen xs m i j y

pub three : (i j : ℕ) → (j < i) ⊎ ((j ≡ i) ⊎ (i < j))
three i j = grind arith

pub seen : (xs : List ℤ) (m : ℤ) (i j : ℕ) → i ≤ length xs → IsSeen xs m i j (nth (insert xs i m) j)
seen xs m i j le = elim (three i j) [
  | inl lt ↦ before lt (get_or-insert_below xs i m (pos 0) j lt le)
  | inr rest ↦ elim rest [
    | inl e ↦ here e (subst (λ k. nth (insert xs i m) k ≡ m) (sym e) (get_or-insert_at xs i m (pos 0) le))
    | inr gt ↦
        let e : j ≡ (j - 1) + 1 = omega arith in
        let i_le : i ≤ j - 1 = omega arith in
        later (j - 1) e i_le (subst (λ k. nth (insert xs i m) k ≡ nth xs (j - 1)) (sym e) (get_or-insert_above xs i m (pos 0) (j - 1) i_le le))
  ]
]

pub inserted : (range : NRange) (m : ℤ) (xs ys : List ℤ) (i : ℕ) → IsAscending xs → IsInRange range m → i ≤ length xs → ((j : ℕ) → j < i → nth xs j <ℤ m) → ((j : ℕ) → i ≤ j → j < length xs → m ≤ℤ nth xs j) → (i < length xs → nth xs i ≢ m) → ys ≡ insert xs i m → IsAdded range m xs ys
inserted range m xs ys i up in_range le below above other is = subst (λ l. IsAdded range m xs l) (sym is) (record {
  ascending = record { below = λ j k lt k_lt. rising j k (nth (insert xs i m) j) (nth (insert xs i m) k) lt k_lt (seen xs m i j le) (seen xs m i k le) };
  own = λ _. record { place = i; within = omega (arith, long); is = get_or-insert_at xs i m (pos 0) le };
  kept = λ z old. elim (three i old.place) [
    | inl lt ↦ record { place = old.place; within = omega (arith, long, old.within); is = get_or-insert_below xs i m (pos 0) old.place lt le ∙ old.is }
    | inr rest ↦ let old_within : old.place < length xs = old.within in let i_le : i ≤ old.place = elim rest [ inl e ↦ omega arith | inr gt ↦ omega arith ] in record { place = old.place + 1; within = omega (arith, long, old_within); is = get_or-insert_above xs i m (pos 0) old.place i_le le ∙ old.is }
  ];
  only = λ z new. from z new.place (nth (insert xs i m) new.place) new.is new.within (seen xs m i new.place le);
}) where
  long : length (insert xs i m) ≡ length xs + 1
  long = length-insert xs i m le

  far : (j : ℕ) → i ≤ j → j < length xs → m <ℤ nth xs j
  far = beyond xs m i up above other

  rising : (j k : ℕ) (y z : ℤ) → j < k → k < length (insert xs i m) → IsSeen xs m i j y → IsSeen xs m i k z → y <ℤ z
  rising j k y z lt k_lt (before p e) (before q f) = let l = up.below j k lt (omega (arith, long)) in omega (arith, ints, l, e, f)
  rising j k y z lt k_lt (before p e) (here q f) = let l = below j p in omega (arith, ints, l, e, f)
  rising j k y z lt k_lt (before p e) (later v q i_le f) = let l = below j p in let g = far v i_le (omega (arith, long)) in omega (arith, ints, l, g, e, f)
  rising j k y z lt k_lt (here p e) (before q f) = absurd (omega arith)
  rising j k y z lt k_lt (here p e) (here q f) = absurd (omega arith)
  rising j k y z lt k_lt (here p e) (later v q i_le f) = let g = far v i_le (omega (arith, long)) in omega (arith, ints, g, e, f)
  rising j k y z lt k_lt (later u p u_le e) (before q f) = absurd (omega arith)
  rising j k y z lt k_lt (later u p u_le e) (here q f) = absurd (omega arith)
  rising j k y z lt k_lt (later u p u_le e) (later v q i_le f) = let l = up.below u v (omega arith) (omega (arith, long)) in omega (arith, ints, l, e, f)

  from : (z : ℤ) (j : ℕ) (y : ℤ) → y ≡ z → j < length (insert xs i m) → IsSeen xs m i j y → IsOneOf xs z ⊎ ((z ≡ m) × IsInRange range m)
  from z j y is_z lt (before p e) = inl (record { place = j; within = omega arith; is = sym e ∙ is_z })
  from z j y is_z lt (here p e) = inr (sym is_z ∙ e, in_range)
  from z j y is_z lt (later k p i_le e) = inl (record { place = k; within = omega (arith, long); is = sym e ∙ is_z })

-- the number at a place of a list, whatever stands past its end
pub any_default : (list : List ℤ) (k : ℕ) (p q : ℤ) → k < length list → get_or list k p ≡ get_or list k q
any_default [] k p q lt = absurd (omega arith)
any_default (x ∷ xs) zero p q lt = refl
any_default (x ∷ xs) (suc k) p q lt = any_default xs k p q (omega arith)

pub read_is : (xs : List ℤ) (i : ℕ) (y : ℤ) → i < length xs → y ≡ get_or xs i y → y ≡ nth xs i
read_is xs i y lt e = e ∙ any_default xs i y (pos 0) lt
