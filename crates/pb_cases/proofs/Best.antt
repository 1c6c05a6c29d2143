-- The ends, offered in turn, give the least rank at one N; the first breakpoint with one gives the least N.
use Rattle.std.proofs.Common.{◌≡◌, ℕ, zero, suc, ◌<◌, ◌≤◌, ℤ, pos, ◌≤ℤ◌, ◌⊎◌, inl, inr, Option, Some, None, List, [], ◌∷◌, length, get_or, true, false, Bool, ◌&&◌, if◌then◌else◌, nat_eq, refl, sym, ap, ◌∙◌, subst, arith, MatchOption, Result, Ok, Err, IfOk}
use Rattle.std.proofs.lemmas.Int.{ints}
use Rattle.std.proofs.lemmas.Bool.Decides.{nat_tests}
use Rattle.std.specs.List.{All, Contains}
use Rattle.pb_affine.specs.declared.lin.Lin.{Lin}
use Rattle.pb_affine.specs.declared.guard.Guard.{Guard}
use Rattle.pb_cases.specs.declared.region.Wanted.{Wanted}
use Rattle.pb_cases.specs.declared.region.Rank.{Rank}
use Rattle.pb_cases.specs.declared.bad.Bad.{Bad}
use Rattle.pb_cases.specs.Numbers.{nth}
use Rattle.pb_cases.specs.Breakpoints.{Division, IsBreakpoint, IsDivision, IsInRange}
use Rattle.pb_cases.specs.Bounds.{IsAligned, high_end, low_end}
use Rattle.pb_cases.specs.Regions.{IsFirst, IsNowhere, is_before, is_wanted}
use Rattle.pb_cases.specs.Search.{IsFound, IsNotFound, best_at, best_of, is_less, offered, with_both}
use Rattle.pb_cases.proofs.Stretch.{at, IsStretch, up_to_below}
use Rattle.std.proofs.lemmas.List.Elements.{All-get_or}
use Rattle.pb_cases.proofs.Ends.{Each, own_ends, at_end, first_decides}
use Rattle.pb_cases.proofs.Sorted.{any_default}

before_trans : (r p s : ℕ) (x y z : ℤ) → is_before r x s z ≡ false → is_before p y s z ≡ true → is_before r x p y ≡ false
before_trans r p s x y z h g = grind (arith, ints, nat_tests)

before_self : (r : ℕ) (x : ℤ) → is_before r x r x ≡ false
before_self r x = grind (arith, ints, nat_tests)

before_up : (r s : ℕ) (v x z : ℤ) → v ≤ℤ x → is_before r v s z ≡ false → is_before r x s z ≡ false
before_up r s v x z le h = grind (arith, ints, nat_tests)

less_up : (o : Option Rank) (r : ℕ) (v x : ℤ) → v ≤ℤ x → is_less r v o ≡ false → is_less r x o ≡ false
less_up None r v x le h = h
less_up (Some s) r v x le h = before_up r s.role v x s.index le h

-- what an offer leaves
kept : (wants : Bool) (best : Option Rank) (p r : ℕ) (y x : ℤ) → is_less r x best ≡ false → is_less r x (if (is_less p y best && wants) then Some (record { role = p; index = y }) else best) ≡ false
kept wants None p r y x h = absurd (cc)
kept wants (Some s) p r y x h = by_test (is_before p y s.role s.index) wants refl where
  by_test : (t w : Bool) → is_before p y s.role s.index ≡ t → is_less r x (if (t && w) then Some (record { role = p; index = y }) else Some s) ≡ false
  by_test true true e = before_trans r p s.role x y s.index h e
  by_test true false e = h
  by_test false w e = h

covers : (wants : Bool) (best : Option Rank) (p : ℕ) (y : ℤ) → wants ≡ true → is_less p y (if (is_less p y best && wants) then Some (record { role = p; index = y }) else best) ≡ false
covers wants best p y w = by_test (is_less p y best) wants w refl where
  by_test : (t v : Bool) → v ≡ true → is_less p y best ≡ t → is_less p y (if (t && v) then Some (record { role = p; index = y }) else best) ≡ false
  by_test true true v e = before_self p y
  by_test true false v e = absurd (cc)
  by_test false v w e = e

best_keeps : (wanted : Wanted) (a b : List Guard) (n : ℤ) (gs : List Guard) (best : Option Rank) (r : ℕ) (x : ℤ) → is_less r x best ≡ false → is_less r x (best_of wanted a b n gs best) ≡ false
best_keeps wanted a b n [] best r x h = h
best_keeps wanted a b n (g ∷ gs) best r x h =
    let low = offered wanted a b n g.role (at (low_end g) n) best in
    let high = offered wanted a b n g.role (at (high_end g) n) low in
    best_keeps wanted a b n gs high r x
    (kept (is_wanted wanted a b n g.role (at (high_end g) n)) low g.role r (at (high_end g) n) x
    (kept (is_wanted wanted a b n g.role (at (low_end g) n)) best g.role r (at (low_end g) n) x h))

role_is : (r s : ℕ) → nat_eq r s ≡ true → s ≡ r
role_is r s h = grind (arith, nat_tests)

abbrev with_low : Wanted → List Guard → List Guard → ℤ → Guard → Option Rank → Option Rank
with_low wanted a b n g best = offered wanted a b n g.role (at (low_end g) n) best

low_covered : (wanted : Wanted) (a b : List Guard) (n : ℤ) (g : Guard) (gs : List Guard) (best : Option Rank) → is_wanted wanted a b n g.role (at (low_end g) n) ≡ true → is_less g.role (at (low_end g) n) (best_of wanted a b n gs (with_both wanted a b n g best)) ≡ false
low_covered wanted a b n g gs best w =
    best_keeps wanted a b n gs (with_both wanted a b n g best) g.role (at (low_end g) n)
    (kept (is_wanted wanted a b n g.role (at (high_end g) n)) (with_low wanted a b n g best) g.role g.role (at (high_end g) n) (at (low_end g) n)
    (covers (is_wanted wanted a b n g.role (at (low_end g) n)) best g.role (at (low_end g) n) w))

high_covered : (wanted : Wanted) (a b : List Guard) (n : ℤ) (g : Guard) (gs : List Guard) (best : Option Rank) → is_wanted wanted a b n g.role (at (high_end g) n) ≡ true → is_less g.role (at (high_end g) n) (best_of wanted a b n gs (with_both wanted a b n g best)) ≡ false
high_covered wanted a b n g gs best w =
    best_keeps wanted a b n gs (with_both wanted a b n g best) g.role (at (high_end g) n)
    (covers (is_wanted wanted a b n g.role (at (high_end g) n)) (with_low wanted a b n g best) g.role (at (high_end g) n) w)

best_covers : (wanted : Wanted) (a b : List Guard) (n : ℤ) (gs : List Guard) (best : Option Rank) (role : ℕ) → Each (λ e. is_wanted wanted a b n role (at e n) ≡ true → is_less role (at e n) (best_of wanted a b n gs best) ≡ false) (own_ends role gs)
best_covers wanted a b n [] best role = tt
best_covers wanted a b n (g ∷ gs) best role = by_role (nat_eq role g.role) refl (best_covers wanted a b n gs (with_both wanted a b n g best) role) where
  by_role : (t : Bool) → nat_eq role g.role ≡ t → Each (λ e. is_wanted wanted a b n role (at e n) ≡ true → is_less role (at e n) (best_of wanted a b n gs (with_both wanted a b n g best)) ≡ false) (own_ends role gs) → Each (λ e. is_wanted wanted a b n role (at e n) ≡ true → is_less role (at e n) (best_of wanted a b n gs (with_both wanted a b n g best)) ≡ false) (if t then (low_end g ∷ high_end g ∷ own_ends role gs) else own_ends role gs)
  by_role true e rest =
      let same : g.role ≡ role = role_is role g.role e in (
        subst (λ r. is_wanted wanted a b n r (at (low_end g) n) ≡ true → is_less r (at (low_end g) n) (best_of wanted a b n gs (with_both wanted a b n g best)) ≡ false) same (low_covered wanted a b n g gs best),
        (
          subst (λ r. is_wanted wanted a b n r (at (high_end g) n) ≡ true → is_less r (at (high_end g) n) (best_of wanted a b n gs (with_both wanted a b n g best)) ≡ false) same (high_covered wanted a b n g gs best),
          rest,
        ),
      )
  by_role false e rest = rest

-- what is found is in the region
abbrev IsSound : Wanted → List Guard → List Guard → ℤ → Option Rank → Type 0
IsSound wanted a b n None = Unit {0}
IsSound wanted a b n (Some s) = is_wanted wanted a b n s.role s.index ≡ true

offer_sound : (wanted : Wanted) (a b : List Guard) (n : ℤ) (p : ℕ) (y : ℤ) (best : Option Rank) → IsSound wanted a b n best → IsSound wanted a b n (offered wanted a b n p y best)
offer_sound wanted a b n p y best h = by_test (is_less p y best) (is_wanted wanted a b n p y) refl where
  by_test : (t w : Bool) → is_wanted wanted a b n p y ≡ w → IsSound wanted a b n (if (t && w) then Some (record { role = p; index = y }) else best)
  by_test true true e = e
  by_test true false e = h
  by_test false w e = h

best_sound : (wanted : Wanted) (a b : List Guard) (n : ℤ) (gs : List Guard) (best : Option Rank) → IsSound wanted a b n best → IsSound wanted a b n (best_of wanted a b n gs best)
best_sound wanted a b n [] best h = h
best_sound wanted a b n (g ∷ gs) best h = best_sound wanted a b n gs (with_both wanted a b n g best) (offer_sound wanted a b n g.role (at (high_end g) n) (with_low wanted a b n g best) (offer_sound wanted a b n g.role (at (low_end g) n) best h))

each_weaker : (P Q : Lin → Type 0) → ((e : Lin) → P e → Q e) → (xs : List Lin) → Each P xs → Each Q xs
each_weaker P Q f [] p = tt
each_weaker P Q f (x ∷ xs) p = (f x p.0, each_weaker P Q f xs p.1)

-- no rank of the region is less than what is found
pub best_least : (d : Division) (wanted : Wanted) (a b : List Guard) (n : ℤ) (role : ℕ) (x : ℤ) → All (IsAligned d) a → All (IsAligned d) b → is_wanted wanted a b n role x ≡ true → is_less role x (best_at wanted a b n) ≡ false
best_least d wanted a b n role x a_aligned b_aligned h =
    let in_a = each_weaker
    (λ e. is_wanted wanted a b n role (at e n) ≡ true → is_less role (at e n) (best_of wanted a b n a None) ≡ false)
    (λ e. is_wanted wanted a b n role (at e n) ≡ true → is_less role (at e n) (best_at wanted a b n) ≡ false)
    (λ e f w. best_keeps wanted a b n b (best_of wanted a b n a None) role (at e n) (f w))
    (own_ends role a) (best_covers wanted a b n a None role) in
    let e = at_end d (λ e. is_wanted wanted a b n role (at e n) ≡ true → is_less role (at e n) (best_at wanted a b n) ≡ false) wanted a b n role x a_aligned b_aligned in_a (best_covers wanted a b n b (best_of wanted a b n a None) role) h in
    less_up (best_at wanted a b n) role (at e.e n) x e.le (e.has e.there)

pub best_there : (wanted : Wanted) (a b : List Guard) (n : ℤ) (s : Rank) → best_at wanted a b n ≡ Some s → is_wanted wanted a b n s.role s.index ≡ true
best_there wanted a b n s e = subst (λ o. IsSound wanted a b n o) e (best_sound wanted a b n b (best_of wanted a b n a None) (best_sound wanted a b n a None tt))

pub none_there : (d : Division) (wanted : Wanted) (a b : List Guard) (n : ℤ) (role : ℕ) (x : ℤ) → All (IsAligned d) a → All (IsAligned d) b → best_at wanted a b n ≡ None → is_wanted wanted a b n role x ≡ true → ⊥
none_there d wanted a b n role x a_aligned b_aligned e h = let less : is_less role x None ≡ false = subst (λ o. is_less role x o ≡ false) e (best_least d wanted a b n role x a_aligned b_aligned h) in cc

-- the last breakpoint up to a number
record IsLast (list : List ℤ) (P : ℤ → Type 0) (m b0 : ℤ) : Type 0 where
  b : ℤ
  has : P b
  le : b ≤ℤ m
  over : b0 ≤ℤ b
  most : (j : ℕ) → j < length list → nth list j ≤ℤ m → nth list j ≤ℤ b

pick : (u v x : ℤ) → ((v ≤ℤ x) × (u ≤ℤ v)) ⊎ (v ≤ℤ x → v ≤ℤ u)
pick u v x = grind (arith, ints)

last : (P : ℤ → Type 0) (m : ℤ) (list : List ℤ) (b0 : ℤ) → P b0 → b0 ≤ℤ m → ((j : ℕ) → j < length list → P (nth list j)) → IsLast list P m b0
last P m [] b0 p le each = record { b = b0; has = p; le = le; over = omega (arith, ints); most = λ j lt _. absurd (omega arith) }
last P m (c ∷ cs) b0 p le each = choose (pick b0 c m) (λ b q l. last P m cs b q l (λ j lt. each (suc j) (omega arith))) where
  here : 0 < length (c ∷ cs)
  here = omega arith

  choose : ((c ≤ℤ m) × (b0 ≤ℤ c)) ⊎ (c ≤ℤ m → c ≤ℤ b0) → ((b : ℤ) → P b → b ≤ℤ m → IsLast cs P m b) → IsLast (c ∷ cs) P m b0
  choose (inl h) more = let t = more c (each 0 here) h.0 in record { b = t.b; has = t.has; le = t.le; over = omega (arith, ints, h.1, t.over); most = most t.b (λ _. t.over) t.most }
    where
      most : (b : ℤ) → (c ≤ℤ m → c ≤ℤ b) → ((j : ℕ) → j < length cs → nth cs j ≤ℤ m → nth cs j ≤ℤ b) → (j : ℕ) → j < length (c ∷ cs) → get_or (c ∷ cs) j (pos 0) ≤ℤ m → get_or (c ∷ cs) j (pos 0) ≤ℤ b
      most b h t zero lt le' = h le'
      most b h t (suc j) lt le' = t j (omega arith) le'
  choose (inr h) more = let t = more b0 p le in record { b = t.b; has = t.has; le = t.le; over = t.over; most = most t.b (λ g. omega (arith, ints, h g, t.over)) t.most }
    where
      most : (b : ℤ) → (c ≤ℤ m → c ≤ℤ b) → ((j : ℕ) → j < length cs → nth cs j ≤ℤ m → nth cs j ≤ℤ b) → (j : ℕ) → j < length (c ∷ cs) → get_or (c ∷ cs) j (pos 0) ≤ℤ m → get_or (c ∷ cs) j (pos 0) ≤ℤ b
      most b h t zero lt le' = h le'
      most b h t (suc j) lt le' = t j (omega arith) le'

record IsPlace (list : List ℤ) (b : ℤ) : Type 0 where
  place : ℕ
  within : place < length list
  is : b ≡ get_or list place (pos 0)

placed : (list : List ℤ) (b : ℤ) → Contains list b → IsPlace list b
placed list b c = record { place = c.0; within = c.1; is = sym c.2 ∙ any_default list c.0 b (pos 0) c.1 }

record IsIn (d : Division) (m : ℤ) : Type 0 where
  b : ℤ
  has : IsPlace d.breakpoints b
  stretch : IsStretch d b m

break_at : (d : Division) (b : ℤ) → IsDivision d → IsPlace d.breakpoints b → IsBreakpoint d.range d.cuts b
break_at d b divided p = subst (λ z. IsBreakpoint d.range d.cuts z) (sym p.is) (All-get_or (IsBreakpoint d.range d.cuts) d.breakpoints p.place (pos 0) p.within divided.sound)

-- each N of the range is in a stretch that begins with a breakpoint
stretch_of : (d : Division) (m : ℤ) → IsDivision d → IsInRange d.range m → IsIn d m
stretch_of d m divided m_in =
    let low = pos d.range.low in
    let low_le : pos d.range.low ≤ℤ m = m_in.low in
    let low_in : IsInRange d.range (pos d.range.low) = record { low = omega (arith, ints); high = up_to_below d.range.high (pos d.range.low) m low_le m_in.high } in
    let start : IsPlace d.breakpoints (pos d.range.low) = placed d.breakpoints (pos d.range.low) (divided.complete (pos d.range.low) (record { in_range = low_in; why = inl refl })) in
    let t = last (IsPlace d.breakpoints) m d.breakpoints (pos d.range.low) start low_le (λ j lt. record { place = j; within = lt; is = refl }) in
    record {
      b = t.b;
      has = t.has;
      stretch = record {
        first = (break_at d t.b divided t.has).in_range;
        last = m_in;
        le = t.le;
        none = λ z above le break.
            let p = placed d.breakpoints z (divided.complete z break) in
            let at_z : get_or d.breakpoints p.place (pos 0) ≤ℤ m = subst (λ y. y ≤ℤ m) p.is le in
            let up : get_or d.breakpoints p.place (pos 0) ≤ℤ t.b = t.most p.place p.within at_z in
            let up_z : z ≤ℤ t.b = subst (λ y. y ≤ℤ t.b) (sym p.is) up in
            absurd (omega (arith, ints, above, up_z));
      };
    }

in_order : (d : Division) (i j : ℕ) → IsDivision d → i ≤ j → j < length d.breakpoints → get_or d.breakpoints i (pos 0) ≤ℤ get_or d.breakpoints j (pos 0)
in_order d i j divided le lt = cases (same_or_less i j le) where
  same_or_less : (i j : ℕ) → i ≤ j → (i ≡ j) ⊎ (i < j)
  same_or_less i j le = grind arith

  cases : (i ≡ j) ⊎ (i < j) → get_or d.breakpoints i (pos 0) ≤ℤ get_or d.breakpoints j (pos 0)
  cases (inl e) = subst (λ k. get_or d.breakpoints i (pos 0) ≤ℤ get_or d.breakpoints k (pos 0)) e (omega (arith, ints))
  cases (inr less) = let h = divided.ascending.below i j less lt in omega (arith, ints)

pub found_first : (d : Division) (wanted : Wanted) (a b : List Guard) (bad : Bad) → IsDivision d → All (IsAligned d) a → All (IsAligned d) b → IsFound wanted a b d.breakpoints bad → IsFirst d.range (is_wanted wanted a b) bad.n bad.role bad.index
found_first d wanted a b bad divided a_aligned b_aligned f = record {
  in_range = (break_at d bad.n divided (record { place = f.place; within = f.within; is = f.is })).in_range;
  there = best_there wanted a b bad.n (record { role = bad.role; index = bad.index }) f.best;
  least_n = λ m r x m_in h.
      let s = stretch_of d m divided m_in in
      let w = first_decides d wanted a b s.b m r x divided s.stretch a_aligned b_aligned h in
      let not_before : s.has.place < f.place → ⊥ = λ lt. none_there d wanted a b s.b r w.index a_aligned b_aligned (subst (λ z. best_at wanted a b z ≡ None) (sym s.has.is) (f.before s.has.place lt)) w.there in
      let le : f.place ≤ s.has.place = omega (arith, not_before) in
      let up : get_or d.breakpoints f.place (pos 0) ≤ℤ get_or d.breakpoints s.has.place (pos 0) = in_order d f.place s.has.place divided le s.has.within in
      let up_b : bad.n ≤ℤ s.b = subst (λ z. z ≤ℤ s.b) (sym f.is) (subst (λ z. get_or d.breakpoints f.place (pos 0) ≤ℤ z) (sym s.has.is) up) in
      let b_le : s.b ≤ℤ m = s.stretch.le in
      omega (arith, ints, up_b, b_le);
  least_rank = λ r x h. subst (λ o. is_less r x o ≡ false) f.best (best_least d wanted a b bad.n r x a_aligned b_aligned h);
}

pub not_found : (d : Division) (wanted : Wanted) (a b : List Guard) → IsDivision d → All (IsAligned d) a → All (IsAligned d) b → IsNotFound wanted a b d.breakpoints → IsNowhere d.range (is_wanted wanted a b)
not_found d wanted a b divided a_aligned b_aligned f = record {
  none = λ n r x n_in h.
      let s = stretch_of d n divided n_in in
      let w = first_decides d wanted a b s.b n r x divided s.stretch a_aligned b_aligned h in
      none_there d wanted a b s.b r w.index a_aligned b_aligned (subst (λ z. best_at wanted a b z ≡ None) (sym s.has.is) (f.none s.has.place s.has.within)) w.there;
}

pub answered : (d e : Division) (list : List ℤ) (wanted : Wanted) (a b : List Guard) (r : Option Bad) → d ≡ e → list ≡ d.breakpoints → IsDivision d → All (IsAligned e) a → All (IsAligned e) b → MatchOption r (IsNotFound wanted a b list) (λ bad. IsFound wanted a b list bad) → MatchOption r (IsNowhere e.range (is_wanted wanted a b)) (λ bad. IsFirst e.range (is_wanted wanted a b) bad.n bad.role bad.index)
answered d e list wanted a b r view is division a_aligned b_aligned h = by_case r h where
  divides : IsDivision e
  divides = subst (λ x. IsDivision x) view division

  list_is : list ≡ e.breakpoints
  list_is = is ∙ ap (λ x. x.breakpoints) view

  by_case : (r : Option Bad) → MatchOption r (IsNotFound wanted a b list) (λ bad. IsFound wanted a b list bad) → MatchOption r (IsNowhere e.range (is_wanted wanted a b)) (λ bad. IsFirst e.range (is_wanted wanted a b) bad.n bad.role bad.index)
  by_case None f = not_found e wanted a b divides a_aligned b_aligned (subst (λ l. IsNotFound wanted a b l) list_is f)
  by_case (Some bad) f = found_first e wanted a b bad divides a_aligned b_aligned (subst (λ l. IsFound wanted a b l bad) list_is f)

pub answered_ok : (E : Type 0) (d e : Division) (list : List ℤ) (wanted : Wanted) (a b : List Guard) (r : Result (Option Bad) E) → d ≡ e → list ≡ d.breakpoints → IsDivision d → All (IsAligned e) a → All (IsAligned e) b → IfOk r (λ o. MatchOption o (IsNotFound wanted a b list) (λ bad. IsFound wanted a b list bad)) → IfOk r (λ o. MatchOption o (IsNowhere e.range (is_wanted wanted a b)) (λ bad. IsFirst e.range (is_wanted wanted a b) bad.n bad.role bad.index))
answered_ok E d e list wanted a b (Ok o) view is division a_aligned b_aligned h = answered d e list wanted a b o view is division a_aligned b_aligned h
answered_ok E d e list wanted a b (Err f) view is division a_aligned b_aligned h = h
