-- Where a new constraint goes in the list.
use Rattle.std.proofs.Common.{◌≡◌, ℕ, zero, suc, ◌+◌, ◌<◌, ◌≤◌, List, [], ◌∷◌, ◌++◌, set, take, length, ◌≤ℤ◌, ◌<ℤ◌, refl, sym, ap, ◌∙◌, subst, arith, true, false, ◌⊎◌, inl, inr, Bool, if◌then◌else◌, int_lt, nat_eq, ◌&&◌, ◌||◌, ◌-ℤ◌, ℤ, ◌↔◌}
use Rattle.std.proofs.lemmas.List.Elements.{All-nil, All-cons, All-head, All-tail}
use Rattle.std.proofs.lemmas.List.{length-take-le, get_or-take, take_more_set, set-get_or}
use Rattle.std.proofs.Math.Seq.{take-set-lt}
use Rattle.std.proofs.lemmas.Int.{ints}
use Rattle.std.specs.List.{All}
use Rattle.pb_diff.specs.declared.constraint.Constraint.{Constraint}
use Rattle.pb_diff.specs.Systems.{with_constraint, has_pair, is_on, at, IsAllowed, IsSystem, Keeps}

pub with_none : (k : Constraint) (xs : List Constraint) → ((j : ℕ) → j < length xs → is_on k.a k.b (at xs j) ≡ false) → with_constraint k xs ≡ xs ++ k ∷ []
with_none k [] none = refl
with_none k (h ∷ rest) none =
    let here : is_on k.a k.b h ≡ false = none 0 (omega arith) in
    let more : with_constraint k rest ≡ rest ++ k ∷ [] = with_none k rest (λ j lt. none (suc j) (omega arith)) in
    rw here (ap (λ l. h ∷ l) more)

pub with_at : (k : Constraint) (xs : List Constraint) (i : ℕ) → ((j : ℕ) → j < i → is_on k.a k.b (at xs j) ≡ false) → i < length xs → is_on k.a k.b (at xs i) ≡ true → with_constraint k xs ≡ set xs i (if int_lt k.c (at xs i).c then k else (at xs i))
with_at k [] i before lt on = absurd (omega arith)
with_at k (h ∷ rest) zero before lt on = rw on refl
with_at k (h ∷ rest) (suc i) before lt on =
    let here : is_on k.a k.b h ≡ false = before 0 (omega arith) in
    let more : with_constraint k rest ≡ set rest i (if int_lt k.c (at rest i).c then k else (at rest i)) = with_at k rest i (λ j j_lt. before (suc j) (omega arith)) (omega arith) on in
    rw here (ap (λ l. h ∷ l) more)

pub has_none : (a b : ℕ) (xs : List Constraint) → ((j : ℕ) → j < length xs → is_on a b (at xs j) ≡ false) → has_pair a b xs ≡ false
has_none a b [] none = refl
has_none a b (h ∷ rest) none =
    let here : is_on a b h ≡ false = none 0 (omega arith) in
    let more : has_pair a b rest ≡ false = has_none a b rest (λ j lt. none (suc j) (omega arith)) in
    rw (here, more) refl

pub allowed_with : (vars : ℕ) (k : Constraint) (xs : List Constraint) → IsAllowed vars k → All (IsAllowed vars) xs → All (IsAllowed vars) (with_constraint k xs)
allowed_with vars k [] own all = All-cons (IsAllowed vars) k [] own all
allowed_with vars k (h ∷ rest) own all = cases (is_on k.a k.b h) (int_lt k.c h.c) (All-head (IsAllowed vars) h rest all) (All-tail (IsAllowed vars) h rest all) (allowed_with vars k rest own (All-tail (IsAllowed vars) h rest all)) where
  cases : (on less : Bool) → IsAllowed vars h → All (IsAllowed vars) rest → All (IsAllowed vars) (with_constraint k rest) → All (IsAllowed vars) (if on then ((if less then k else h) ∷ rest) else (h ∷ with_constraint k rest))
  cases true true first others more = All-cons (IsAllowed vars) k rest own others
  cases true false first others more = All-cons (IsAllowed vars) h rest first others
  cases false less first others more = All-cons (IsAllowed vars) h (with_constraint k rest) first more

pub put_last : (kept : List Constraint) (count i : ℕ) (k : Constraint) → i ≡ count → count < length kept → ((j : ℕ) → j < i → is_on k.a k.b (at (take count kept) j) ≡ false) → take (count + 1) (set kept i k) ≡ with_constraint k (take count kept)
put_last kept count i k e lt before =
    let size : length (take count kept) ≡ count = length-take-le count kept (omega arith) in
    subst (λ z. take (count + 1) (set kept z k) ≡ with_constraint k (take count kept)) (sym e)
    (take_more_set kept count k lt ∙ sym (with_none k (take count kept) (λ j j_lt. before j (omega arith))))

with_place : (kept : List Constraint) (count i : ℕ) (k : Constraint) → i < count → count ≤ length kept → ((j : ℕ) → j < i → is_on k.a k.b (at (take count kept) j) ≡ false) → is_on k.a k.b (at (take count kept) i) ≡ true → with_constraint k (take count kept) ≡ take count (set kept i (if int_lt k.c (at kept i).c then k else (at kept i)))
with_place kept count i k lt le before on =
    let size : length (take count kept) ≡ count = length-take-le count kept le in
    let seen : at (take count kept) i ≡ at kept i = get_or-take count kept i _ lt in
    with_at k (take count kept) i before (omega arith) on
    ∙ ap (λ h. set (take count kept) i (if int_lt k.c h.c then k else h)) seen
    ∙ sym (take-set-lt count kept i _ lt)

pub put_stronger : (kept : List Constraint) (count i : ℕ) (k : Constraint) → i < count → count ≤ length kept → ((j : ℕ) → j < i → is_on k.a k.b (at (take count kept) j) ≡ false) → is_on k.a k.b (at (take count kept) i) ≡ true → k.c <ℤ (at kept i).c → take count (set kept i k) ≡ with_constraint k (take count kept)
put_stronger kept count i k lt le before on less =
    let test : int_lt k.c (at kept i).c ≡ true = grind (arith, ints) in
    let way : with_constraint k (take count kept) ≡ take count (set kept i (if int_lt k.c (at kept i).c then k else (at kept i))) = with_place kept count i k lt le before on in
    sym (rw test at way)

pub put_weaker : (kept : List Constraint) (count i : ℕ) (k : Constraint) → i < count → count ≤ length kept → ((j : ℕ) → j < i → is_on k.a k.b (at (take count kept) j) ≡ false) → is_on k.a k.b (at (take count kept) i) ≡ true → (at kept i).c ≤ℤ k.c → take count kept ≡ with_constraint k (take count kept)
put_weaker kept count i k lt le before on no_less =
    let test : int_lt k.c (at kept i).c ≡ false = grind (arith, ints) in
    let way : with_constraint k (take count kept) ≡ take count (set kept i (if int_lt k.c (at kept i).c then k else (at kept i))) = with_place kept count i k lt le before on in
    let there : with_constraint k (take count kept) ≡ take count (set kept i (at kept i)) = rw test at way in
    sym (there ∙ ap (take count) (set-get_or kept i _))

pub has_room : (kept : List Constraint) (count i : ℕ) (k : Constraint) → i ≡ count → count ≤ 16 → length kept ≡ 16 → ((j : ℕ) → j < i → is_on k.a k.b (at (take count kept) j) ≡ false) → (has_pair k.a k.b (take count kept) ≡ true) ⊎ (count < 16) → count < 16
has_room kept count i k e le size before room =
    let size_is : length (take count kept) ≡ count = length-take-le count kept (omega arith) in
    let none : has_pair k.a k.b (take count kept) ≡ false = has_none k.a k.b (take count kept) (λ j lt. before j (omega arith)) in
    elim room [ inl has ↦ absurd (cc) | inr lt ↦ lt ]

pub system_with : (vars : ℕ) (k : Constraint) (list more : List Constraint) → IsSystem (record { vars = vars; list = list }) → IsAllowed vars k → length more ≤ 16 → more ≡ with_constraint k list → IsSystem (record { vars = vars; list = more })
system_with vars k list more old own short is = record {
  some = old.some;
  few = old.few;
  short = short;
  allowed = subst (λ l. All (IsAllowed vars) l) (sym is) (allowed_with vars k list own old.allowed);
}

pair_is : (p a q b : ℕ) → (nat_eq p a && nat_eq q b) ≡ true → (p ≡ a) × (q ≡ b)
pair_is p a q b h = (grind arith, grind arith)

looser : (s : ℕ → ℤ) (h k : Constraint) → h.a ≡ k.a → h.b ≡ k.b → Keeps s k → k.c ≤ℤ h.c → Keeps s h
looser s h k ea eb l le =
    let l2 : (s h.a -ℤ s h.b) ≤ℤ k.c = subst (λ a. (s a -ℤ s h.b) ≤ℤ k.c) (sym ea) (subst (λ b. (s k.a -ℤ s b) ≤ℤ k.c) (sym eb) l) in
    omega (arith, ints, l2, le)

-- For callers: numbers keep the longer list exactly where they keep the list and the new constraint.
pub keeps_with : (s : ℕ → ℤ) (k : Constraint) (xs : List Constraint) → All (Keeps s) (with_constraint k xs) ↔ (Keeps s k × All (Keeps s) xs)
keeps_with s k xs = (there xs, λ p. back xs p.0 p.1) where
  there : (xs : List Constraint) → All (Keeps s) (with_constraint k xs) → Keeps s k × All (Keeps s) xs
  there [] all = (All-head (Keeps s) k [] all, All-nil (Keeps s))
  there (h ∷ rest) all = cases (is_on k.a k.b h) refl all (there rest) where
    cases : (on : Bool) → is_on k.a k.b h ≡ on → All (Keeps s) (if on then ((if int_lt k.c h.c then k else h) ∷ rest) else (h ∷ with_constraint k rest)) → (All (Keeps s) (with_constraint k rest) → Keeps s k × All (Keeps s) rest) → Keeps s k × All (Keeps s) (h ∷ rest)
    cases true e all more =
        let kept : Keeps s k × Keeps s h = both_kept (int_lt k.c h.c) refl (All-head (Keeps s) (if int_lt k.c h.c then k else h) rest all) in
        (kept.0, All-cons (Keeps s) h rest kept.1 (All-tail (Keeps s) (if int_lt k.c h.c then k else h) rest all))
      where
        same : (h.a ≡ k.a) × (h.b ≡ k.b)
        same = pair_is h.a k.a h.b k.b e

        both_kept : (less : Bool) → int_lt k.c h.c ≡ less → Keeps s (if less then k else h) → Keeps s k × Keeps s h
        both_kept true t l = (l, looser s h k same.0 same.1 l (omega (arith, ints)))
        both_kept false t l = (looser s k h (sym same.0) (sym same.1) l (omega (arith, ints)), l)
    cases false e all more =
        let m = more (All-tail (Keeps s) h (with_constraint k rest) all) in
        (m.0, All-cons (Keeps s) h rest (All-head (Keeps s) h (with_constraint k rest) all) m.1)

  back : (xs : List Constraint) → Keeps s k → All (Keeps s) xs → All (Keeps s) (with_constraint k xs)
  back [] own all = All-cons (Keeps s) k [] own all
  back (h ∷ rest) own all = cases (is_on k.a k.b h) (int_lt k.c h.c) (back rest own (All-tail (Keeps s) h rest all)) where
    cases : (on less : Bool) → All (Keeps s) (with_constraint k rest) → All (Keeps s) (if on then ((if less then k else h) ∷ rest) else (h ∷ with_constraint k rest))
    cases true true more = All-cons (Keeps s) k rest own (All-tail (Keeps s) h rest all)
    cases true false more = all
    cases false less more = All-cons (Keeps s) h (with_constraint k rest) (All-head (Keeps s) h rest all) more

-- For callers: the list grows by one at most, has the new pair, and keeps its pairs.
pub with_length : (k : Constraint) (xs : List Constraint) → length (with_constraint k xs) ≤ length xs + 1
with_length k [] = omega arith
with_length k (h ∷ rest) = cases (is_on k.a k.b h) (int_lt k.c h.c) (with_length k rest) where
  cases : (on less : Bool) → length (with_constraint k rest) ≤ length rest + 1 → length (if on then ((if less then k else h) ∷ rest) else (h ∷ with_constraint k rest)) ≤ length (h ∷ rest) + 1
  cases true true more = omega arith
  cases true false more = omega arith
  cases false less more = omega arith

on_itself : (k : Constraint) → is_on k.a k.b k ≡ true
on_itself k = same k.a k.b where
  same : (a b : ℕ) → (nat_eq a a && nat_eq b b) ≡ true
  same a b = grind arith

pub with_pair : (k : Constraint) (xs : List Constraint) → has_pair k.a k.b (with_constraint k xs) ≡ true
with_pair k [] = rw (on_itself k) refl
with_pair k (h ∷ rest) = cases (is_on k.a k.b h) refl (int_lt k.c h.c) (with_pair k rest) where
  cases : (on : Bool) → is_on k.a k.b h ≡ on → (less : Bool) → has_pair k.a k.b (with_constraint k rest) ≡ true → has_pair k.a k.b (if on then ((if less then k else h) ∷ rest) else (h ∷ with_constraint k rest)) ≡ true
  cases true e true more = rw (on_itself k) refl
  cases true e false more = rw e refl
  cases false e less more = rw e more

pub with_others : (a b : ℕ) (k : Constraint) (xs : List Constraint) → has_pair a b xs ≡ true → has_pair a b (with_constraint k xs) ≡ true
with_others a b k [] has = absurd (cc)
with_others a b k (h ∷ rest) has = cases (is_on k.a k.b h) refl (int_lt k.c h.c) (is_on a b h) refl has (with_others a b k rest) where
  same_pair : is_on k.a k.b h ≡ true → is_on a b k ≡ is_on a b h
  same_pair e = let p = pair_is h.a k.a h.b k.b e in ap (λ x. nat_eq x a && nat_eq k.b b) (sym p.0) ∙ ap (λ y. nat_eq h.a a && nat_eq y b) (sym p.1)

  cases : (on : Bool) → is_on k.a k.b h ≡ on → (less this : Bool) → is_on a b h ≡ this → (this || has_pair a b rest) ≡ true → (has_pair a b rest ≡ true → has_pair a b (with_constraint k rest) ≡ true) → has_pair a b (if on then ((if less then k else h) ∷ rest) else (h ∷ with_constraint k rest)) ≡ true
  cases true e true this f has more = rw (same_pair e ∙ f) has
  cases true e false this f has more = rw f has
  cases false e less true f has more = rw f refl
  cases false e less false f has more = rw f (more has)
