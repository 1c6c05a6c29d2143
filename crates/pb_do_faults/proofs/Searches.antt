-- A search of the calls: what it has come to, and what it tells.
use Rattle.std.proofs.Common.{◌≡◌, ℕ, zero, suc, ◌+◌, ◌<◌, ◌≤◌, ◌≢◌, ◌⊎◌, inl, inr, Bool, true, false, ◌||◌, nat_eq, nat_le, if◌then◌else◌, Option, Some, None, List, [], ◌∷◌, ◌++◌, length, map, get_or, set, replicate, refl, sym, ap, ◌∙◌, subst, arith, length-append, append_assoc}
use Rattle.std.proofs.lemmas.Bool.Decides.{nat_tests}
use Rattle.std.proofs.lemmas.List.{get_or-set_same, get_or-set_other}
use Rattle.pb_do_faults.specs.declared.call_site.Body.{Body}
use Rattle.pb_do_faults.specs.declared.call_site.CallSite.{CallSite}
use Rattle.pb_do_faults.specs.Found.{body_calls}
use Rattle.pb_do_faults.specs.Cycles.{Bodies, Calls, body_at, Reaches, itself, onward}
use Rattle.pb_do_faults.specs.Search.{is_among, trues, IsSeen, with_number, with_callee, with_calls, Searched}

-- ---- lists of numbers

same_by : (a b : ℕ) → nat_eq a b ≡ true → a ≡ b
same_by a b e = grind (arith, nat_tests)

test_of : (a b : ℕ) → a ≡ b → nat_eq a b ≡ true
test_of a b e = grind (arith, nat_tests)

true_or : (a b : Bool) → (a || b) ≡ true → (a ≡ true) ⊎ (b ≡ true)
true_or true b e = inl refl
true_or false b e = inr e

or_left : (a b : Bool) → a ≡ true → (a || b) ≡ true
or_left true b e = refl
or_left false b e = absurd (grind arith)

or_right : (a b : Bool) → b ≡ true → (a || b) ≡ true
or_right true b e = refl
or_right false b e = e

nil_right : (xs : List ℕ) → xs ≡ xs ++ []
nil_right [] = refl
nil_right (x ∷ xs) = ap (λ (l : List ℕ). x ∷ l) (nil_right xs)

or_assoc_by : (a b c : Bool) → (a || (b || c)) ≡ ((a || b) || c)
or_assoc_by true b c = refl
or_assoc_by false b c = refl

among_both : (j : ℕ) (xs ys : List ℕ) → is_among j (xs ++ ys) ≡ (is_among j xs || is_among j ys)
among_both j [] ys = refl
among_both j (x ∷ xs) ys = ap (λ (b : Bool). nat_eq j x || b) (among_both j xs ys) ∙ or_assoc_by (nat_eq j x) (is_among j xs) (is_among j ys)

kept : (j : ℕ) (xs ys : List ℕ) → is_among j xs ≡ true → is_among j (xs ++ ys) ≡ true
kept j xs ys h = among_both j xs ys ∙ or_left (is_among j xs) (is_among j ys) h

there_last : (j : ℕ) (xs : List ℕ) → is_among j (xs ++ j ∷ []) ≡ true
there_last j xs = among_both j xs (j ∷ []) ∙ or_right (is_among j xs) (nat_eq j j || false) (or_left (nat_eq j j) false (test_of j j refl))

index_of : (j : ℕ) (xs : List ℕ) → is_among j xs ≡ true → (m : ℕ) × (m < length xs) × (get_or xs m 0 ≡ j)
index_of j [] h = absurd (grind arith)
index_of j (x ∷ xs) h = at (index_of j xs) (true_or (nat_eq j x) (is_among j xs) h)
  where
    at : (is_among j xs ≡ true → (m : ℕ) × (m < length xs) × (get_or xs m 0 ≡ j)) → (nat_eq j x ≡ true) ⊎ (is_among j xs ≡ true) → (m : ℕ) × (m < length (x ∷ xs)) × (get_or (x ∷ xs) m 0 ≡ j)
    at rest (inl e) = (0, omega arith, sym (same_by j x e))
    at rest (inr e) = let r = rest e in (suc r.0, omega (arith, r.1), r.2)

at_index : (xs : List ℕ) (m : ℕ) → m < length xs → is_among (get_or xs m 0) xs ≡ true
at_index [] m h = absurd (omega (arith, h))
at_index (x ∷ xs) zero h = or_left (nat_eq x x) (is_among x xs) (test_of x x refl)
at_index (x ∷ xs) (suc m) h = or_right (nat_eq (get_or xs m 0) x) (is_among (get_or xs m 0) xs) (at_index xs m (omega (arith, h)))

before : (xs ys : List ℕ) (m : ℕ) → m < length xs → get_or (xs ++ ys) m 0 ≡ get_or xs m 0
before [] ys m h = absurd (omega (arith, h))
before (x ∷ xs) ys zero h = refl
before (x ∷ xs) ys (suc m) h = before xs ys m (omega (arith, h))

past : (bodies : Bodies) (i : ℕ) → length bodies ≤ i → body_at bodies i ≡ []
past [] i h = refl
past (b ∷ bs) zero h = absurd (omega (arith, h))
past (b ∷ bs) (suc i) h = past bs i (omega (arith, h))

-- ---- what was seen

trues_set : (seen : List Bool) (i : ℕ) → i < length seen → get_or seen i false ≡ false → trues (set seen i true) ≡ suc (trues seen)
trues_set [] i h e = absurd (omega (arith, h))
trues_set (true ∷ bs) zero h e = absurd (grind arith)
trues_set (false ∷ bs) zero h e = refl
trues_set (true ∷ bs) (suc i) h e = ap suc (trues_set bs i (omega (arith, h)) e)
trues_set (false ∷ bs) (suc i) h e = trues_set bs i (omega (arith, h)) e

trues_few : (seen : List Bool) → trues seen ≤ length seen
trues_few [] = omega arith
trues_few (true ∷ bs) = let r = trues_few bs in omega (arith, r)
trues_few (false ∷ bs) = let r = trues_few bs in omega (arith, r)

pub most : (seen : List Bool) (order : List ℕ) → IsSeen seen order → length order ≤ length seen
most seen order s = let r = trues_few seen in omega (arith, r, s.counted)

no_trues : (count : ℕ) → trues (replicate count false) ≡ 0
no_trues zero = refl
no_trues (suc n) = no_trues n

all_false : (count i : ℕ) → get_or (replicate count false) i false ≡ false
all_false zero i = refl
all_false (suc n) zero = refl
all_false (suc n) (suc i) = all_false n i

pub nothing_seen : (seen : List Bool) (count : ℕ) → seen ≡ replicate count false → IsSeen seen []
nothing_seen seen count e = subst (λ (l : List Bool). IsSeen l []) (sym e) (record { marked = all_false count; counted = no_trues count })

marked_by : (j i : ℕ) (b : Bool) (seen : List Bool) (order : List ℕ) → nat_eq j i ≡ b → i < length seen → get_or seen j false ≡ is_among j order →
    get_or (set seen i true) j false ≡ is_among j (order ++ i ∷ [])
marked_by j i true seen order e h m =
    ap (λ (k : ℕ). get_or (set seen i true) k false) (same_by j i e) ∙ get_or-set_same seen i true false h
    ∙ sym (ap (λ (k : ℕ). is_among k (order ++ i ∷ [])) (same_by j i e) ∙ there_last i order)
marked_by j i false seen order e h m =
    get_or-set_other seen i j true false (λ same. let t : nat_eq j i ≡ true = test_of j i same in absurd (grind arith)) ∙ m
    ∙ sym (among_both j order (i ∷ []) ∙ ap (λ (b : Bool). is_among j order || (b || false)) e ∙ or_no (is_among j order))
  where
    or_no : (a : Bool) → (a || (false || false)) ≡ a
    or_no true = refl
    or_no false = refl

pub one_more_seen : (seen : List Bool) (order : List ℕ) (i : ℕ) → IsSeen seen order → i < length seen → get_or seen i false ≡ false → IsSeen (set seen i true) (order ++ i ∷ [])
one_more_seen seen order i s h e = record {
  marked = λ j. marked_by j i (nat_eq j i) seen order refl h (s.marked j);
  counted = trues_set seen i h e ∙ ap suc s.counted ∙ sym (length-append order (i ∷ []) ∙ omega arith);
}

number_by : (b : Bool) (order : List ℕ) (i : ℕ) → b ≡ true → (if b then order else order ++ i ∷ []) ≡ order
number_by true order i e = refl
number_by false order i e = absurd (grind arith)

number_new_by : (b : Bool) (order : List ℕ) (i : ℕ) → b ≡ false → (if b then order else order ++ i ∷ []) ≡ order ++ (i ∷ [])
number_new_by false order i e = refl
number_new_by true order i e = absurd (grind arith)

both_false : (a b : Bool) → a ≡ false → b ≡ false → (a || b) ≡ false
both_false false false e f = refl
both_false true b e f = absurd (grind arith)
both_false false true e f = absurd (grind arith)

pub number_new : (seen : List Bool) (order : List ℕ) (i : ℕ) → IsSeen seen order → i < length seen → get_or seen i false ≡ false →
    with_number (length seen) order i ≡ order ++ (i ∷ [])
number_new seen order i s h e =
    number_new_by (is_among i order || nat_le (length seen) i) order i (both_false (is_among i order) (nat_le (length seen) i) (sym (s.marked i) ∙ e) (grind (arith, nat_tests)))

pub number_seen : (seen : List Bool) (order : List ℕ) (i : ℕ) → IsSeen seen order → get_or seen i false ≡ true → with_number (length seen) order i ≡ order
number_seen seen order i s e = number_by (is_among i order || nat_le (length seen) i) order i (or_left (is_among i order) (nat_le (length seen) i) (sym (s.marked i) ∙ e))

pub number_past : (seen : List Bool) (order : List ℕ) (i : ℕ) → length seen ≤ i → with_number (length seen) order i ≡ order
number_past seen order i h = number_by (is_among i order || nat_le (length seen) i) order i (or_right (is_among i order) (nat_le (length seen) i) (grind (arith, nat_tests)))

-- ---- one more visit

abbrev Grown : List ℕ → List ℕ → Type 0
Grown old new = (more : List ℕ) × (new ≡ old ++ more)

number_grown : (b : Bool) (order : List ℕ) (i : ℕ) → Grown order (if b then order else order ++ i ∷ [])
number_grown true order i = ([], nil_right order)
number_grown false order i = (i ∷ [], refl)

callee_grown : (count : ℕ) (order : List ℕ) (o : Option ℕ) → Grown order (with_callee count order o)
callee_grown count order None = ([], nil_right order)
callee_grown count order (Some i) = number_grown (is_among i order || nat_le count i) order i

grown : (count : ℕ) (order : List ℕ) (ds : List CallSite) → Grown order (with_calls count order ds)
grown count order [] = ([], nil_right order)
grown count order (d ∷ ds) =
    let a = callee_grown count order d.callee in
    let b = grown count (with_callee count order d.callee) ds in
    (a.0 ++ b.0, b.1 ∙ ap (λ (l : List ℕ). l ++ b.0) a.1 ∙ append_assoc order a.0 b.0)

still : (j : ℕ) (old new : List ℕ) → Grown old new → is_among j old ≡ true → is_among j new ≡ true
still j old new g h = ap (is_among j) g.1 ∙ kept j old g.0 h

number_there : (a b : Bool) (count : ℕ) (order : List ℕ) (i : ℕ) → a ≡ is_among i order → b ≡ nat_le count i →
    (is_among i (if a || b then order else order ++ i ∷ []) ≡ true) ⊎ (count ≤ i)
number_there true b count order i e f = inl (sym e)
number_there false true count order i e f = inr (grind (arith, nat_tests))
number_there false false count order i e f = inl (there_last i order)

callee_there : (count : ℕ) (order : List ℕ) (o : Option ℕ) (j : ℕ) → o ≡ Some j → (is_among j (with_callee count order o) ≡ true) ⊎ (count ≤ j)
callee_there count order None j e = absurd (grind arith)
callee_there count order (Some i) j e =
    subst (λ (k : ℕ). (is_among k (with_number count order i) ≡ true) ⊎ (count ≤ k)) (grind arith) (number_there (is_among i order) (nat_le count i) count order i refl refl)

covers : (count : ℕ) (order : List ℕ) (ds : List CallSite) (j : ℕ) → Calls ds j → (is_among j (with_calls count order ds) ≡ true) ⊎ (count ≤ j)
covers count order [] j c = absurd c
covers count order (d ∷ ds) j (inl e) = at (callee_there count order d.callee j e)
  where
    at : (is_among j (with_callee count order d.callee) ≡ true) ⊎ (count ≤ j) → (is_among j (with_calls count order (d ∷ ds)) ≡ true) ⊎ (count ≤ j)
    at (inl h) = inl (still j (with_callee count order d.callee) (with_calls count (with_callee count order d.callee) ds) (grown count (with_callee count order d.callee) ds) h)
    at (inr h) = inr h
covers count order (d ∷ ds) j (inr c) = covers count (with_callee count order d.callee) ds j c

last_or_before : (j i : ℕ) (order : List ℕ) → is_among j (order ++ i ∷ []) ≡ true → (is_among j order ≡ true) ⊎ (i ≡ j)
last_or_before j i order h = at (true_or (is_among j order) (nat_eq j i || false) (sym (among_both j order (i ∷ [])) ∙ h))
  where
    last : (nat_eq j i ≡ true) ⊎ (false ≡ true) → (is_among j order ≡ true) ⊎ (i ≡ j)
    last (inl e) = inr (sym (same_by j i e))
    last (inr e) = absurd (grind arith)

    at : (is_among j order ≡ true) ⊎ ((nat_eq j i || false) ≡ true) → (is_among j order ≡ true) ⊎ (i ≡ j)
    at (inl e) = inl e
    at (inr e) = last (true_or (nat_eq j i) false e)

number_from : (b : Bool) (order : List ℕ) (i j : ℕ) → is_among j (if b then order else order ++ i ∷ []) ≡ true → (is_among j order ≡ true) ⊎ (i ≡ j)
number_from true order i j h = inl h
number_from false order i j h = last_or_before j i order h

callee_from : (count : ℕ) (order : List ℕ) (o : Option ℕ) (j : ℕ) → is_among j (with_callee count order o) ≡ true → (is_among j order ≡ true) ⊎ (o ≡ Some j)
callee_from count order None j h = inl h
callee_from count order (Some i) j h = at (number_from (is_among i order || nat_le count i) order i j h)
  where
    at : (is_among j order ≡ true) ⊎ (i ≡ j) → (is_among j order ≡ true) ⊎ (Some i ≡ Some j)
    at (inl e) = inl e
    at (inr e) = inr (ap Some e)

comes_from : (count : ℕ) (order : List ℕ) (ds : List CallSite) (j : ℕ) → is_among j (with_calls count order ds) ≡ true → (is_among j order ≡ true) ⊎ Calls ds j
comes_from count order [] j h = inl h
comes_from count order (d ∷ ds) j h = at (comes_from count (with_callee count order d.callee) ds j h)
  where
    first_call : (is_among j order ≡ true) ⊎ (d.callee ≡ Some j) → (is_among j order ≡ true) ⊎ Calls (d ∷ ds) j
    first_call (inl e) = inl e
    first_call (inr e) = inr (inl e)

    at : (is_among j (with_callee count order d.callee) ≡ true) ⊎ Calls ds j → (is_among j order ≡ true) ⊎ Calls (d ∷ ds) j
    at (inl e) = first_call (callee_from count order d.callee j e)
    at (inr c) = inr (inr c)

-- ---- the search

then_on : {bodies : Bodies} {f u j : ℕ} → Reaches bodies f u → Calls (body_at bodies u) j → Reaches bodies f j
then_on {bodies} {f} {u} {j} (itself e) c = onward (subst (λ (k : ℕ). Calls (body_at bodies k) j) (sym e) c) (itself refl)
then_on (onward c r) d = onward c (then_on r d)

pub at_first : (bodies : Bodies) (from to count : ℕ) (none order : List ℕ) → count ≡ length bodies → none ≡ [] → order ≡ with_number count none from → Searched bodies from to order 0
at_first bodies from to count none order c n e = record {
  begun = subst (λ (l : List ℕ). (is_among from l ≡ true) ⊎ (length bodies ≤ from)) (sym first) (number_there false (nat_le (length bodies) from) (length bodies) [] from refl refl);
  missed = λ m h l. absurd (omega (arith, h));
  closed = λ m h l. absurd (omega (arith, h));
  reached = λ j h. itself (only j (number_from (false || nat_le (length bodies) from) [] from j (subst (λ (l : List ℕ). is_among j l ≡ true) first h)));
}
  where
    first : order ≡ with_number (length bodies) [] from
    first = e ∙ ap (λ (k : ℕ). with_number k none from) c ∙ ap (λ (l : List ℕ). with_number (length bodies) l from) n

    only : (j : ℕ) → (false ≡ true) ⊎ (from ≡ j) → from ≡ j
    only j (inl h) = absurd (grind arith)
    only j (inr h) = h

pub found : (bodies : Bodies) (from to : ℕ) (order : List ℕ) (done at : ℕ) → Searched bodies from to order done → done < length order → at ≡ get_or order done 0 → at ≡ to → Reaches bodies from to
found bodies from to order done at s h e f = subst (λ (k : ℕ). Reaches bodies from k) (sym e ∙ f) (s.reached (get_or order done 0) (at_index order done h))

step : (bodies : Bodies) (from to : ℕ) (order new : List ℕ) (done at : ℕ) → Searched bodies from to order done → done < length order → at ≡ get_or order done 0 → at ≢ to →
    new ≡ with_calls (length bodies) order (body_at bodies at) → Searched bodies from to new (done + 1)
step bodies from to order new done at s h e miss f = record {
  begun = begun_by s.begun;
  missed = λ m lt l. missed_at m (nat_eq m done) refl lt;
  closed = λ m lt l j c. closed_at m (nat_eq m done) refl lt j c;
  reached = λ j a. reached_by j (comes_from (length bodies) order (body_at bodies at) j (sym (ap (is_among j) f) ∙ a));
}
  where
    g : Grown order new
    g = let r = grown (length bodies) order (body_at bodies at) in (r.0, f ∙ r.1)

    begun_by : (is_among from order ≡ true) ⊎ (length bodies ≤ from) → (is_among from new ≡ true) ⊎ (length bodies ≤ from)
    begun_by (inl a) = inl (still from order new g a)
    begun_by (inr a) = inr a

    same_at : (m : ℕ) → m < length order → get_or new m 0 ≡ get_or order m 0
    same_at m l = ap (λ (x : List ℕ). get_or x m 0) g.1 ∙ before order g.0 m l

    below : (m : ℕ) → nat_eq m done ≡ false → m < done + 1 → m < done
    below m q lt = grind (arith, nat_tests)

    missed_at : (m : ℕ) (b : Bool) → nat_eq m done ≡ b → m < done + 1 → get_or new m 0 ≢ to
    missed_at m true q lt t = miss (e ∙ sym (ap (λ (k : ℕ). get_or order k 0) (same_by m done q)) ∙ sym (same_at m (let r = same_by m done q in omega (arith, r, h))) ∙ t)
    missed_at m false q lt t = s.missed m (below m q lt) (let r = below m q lt in omega (arith, r, h)) (sym (same_at m (let r = below m q lt in omega (arith, r, h))) ∙ t)

    old : (j : ℕ) → (is_among j order ≡ true) ⊎ (length bodies ≤ j) → (is_among j new ≡ true) ⊎ (length bodies ≤ j)
    old j (inl a) = inl (still j order new g a)
    old j (inr a) = inr a

    closed_at : (m : ℕ) (b : Bool) → nat_eq m done ≡ b → m < done + 1 → (j : ℕ) → Calls (body_at bodies (get_or new m 0)) j → (is_among j new ≡ true) ⊎ (length bodies ≤ j)
    closed_at m true q lt j c =
        subst (λ (l : List ℕ). (is_among j l ≡ true) ⊎ (length bodies ≤ j)) (sym f)
        (covers (length bodies) order (body_at bodies at) j (subst (λ (k : ℕ). Calls (body_at bodies k) j)
        (same_at m (let r = same_by m done q in omega (arith, r, h)) ∙ ap (λ (k : ℕ). get_or order k 0) (same_by m done q) ∙ sym e) c))
    closed_at m false q lt j c = old j (s.closed m (below m q lt) (let r = below m q lt in omega (arith, r, h)) j
        (subst (λ (k : ℕ). Calls (body_at bodies k) j) (same_at m (let r = below m q lt in omega (arith, r, h))) c))

    reached_by : (j : ℕ) → (is_among j order ≡ true) ⊎ Calls (body_at bodies at) j → Reaches bodies from j
    reached_by j (inl a) = s.reached j a
    reached_by j (inr c) = then_on (s.reached (get_or order done 0) (at_index order done h)) (subst (λ (k : ℕ). Calls (body_at bodies k) j) e c)

pub one_more : (bodies : Bodies) (from to count : ℕ) (order new : List ℕ) (done at : ℕ) → Searched bodies from to order done → done < length order → at ≡ get_or order done 0 → at ≢ to →
    count ≡ length bodies → new ≡ with_calls count order (body_at bodies at) → Searched bodies from to new (done + 1)
one_more bodies from to count order new done at s h e miss c f = step bodies from to order new done at s h e miss (f ∙ ap (λ (k : ℕ). with_calls k order (body_at bodies at)) c)

never : (bodies : Bodies) (from to : ℕ) (order : List ℕ) (done : ℕ) → Searched bodies from to order done → length order ≤ done → to < length bodies →
    (v w : ℕ) → w ≡ to → (is_among v order ≡ true) ⊎ (length bodies ≤ v) → Reaches bodies v w → ⊥
never bodies from to order done s h t v w q (inl a) (itself e) =
    let r = index_of v order a in s.missed r.0 (omega (arith, r.1, h)) r.1 (r.2 ∙ e ∙ q)
never bodies from to order done s h t v w q (inr l) (itself e) = omega (arith, e, q, l, t)
never bodies from to order done s h t v w q (inl a) (onward {j = j} c r) =
    let m = index_of v order a in
    never bodies from to order done s h t j w q (s.closed m.0 (omega (arith, m.1, h)) m.1 j (subst (λ (k : ℕ). Calls (body_at bodies k) j) (sym m.2) c)) r
never bodies from to order done s h t v w q (inr l) (onward {j = j} c r) = subst (λ (calls : List CallSite). Calls calls j) (past bodies v l) c

pub none : (bodies : Bodies) (from to : ℕ) (order : List ℕ) (done : ℕ) → Searched bodies from to order done → length order ≤ done → to < length bodies → Reaches bodies from to → ⊥
none bodies from to order done s h t r = never bodies from to order done s h t from to refl s.begun r

pub as_many : (bodies : List Body) → length (map body_calls bodies) ≡ length bodies
as_many [] = refl
as_many (b ∷ bs) = ap suc (as_many bs)

pub read_false : (seen : List Bool) (i : ℕ) (s : Bool) → s ≡ get_or seen i s → s ≡ false → get_or seen i false ≡ false
read_false seen i s e f = ap (λ (b : Bool). get_or seen i b) (sym f) ∙ sym e ∙ f
