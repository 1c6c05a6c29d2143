-- Areas in parts: what they hold of, what is around, and what fits.
use Rattle.std.proofs.Common.{◌≡◌, ◌<◌, ◌≤◌, ◌+◌, ℕ, ℤ, List, [], ◌∷◌, ◌++◌, drop, length, get_or, drop_of_length-le, Bool, true, false, not, ◌||◌, ◌&&◌, refl, ap, sym, ◌∙◌, arith, subst, All}
use Rattle.std.proofs.lemmas.Bool.Decides.{nat_tests}
use Rattle.std.proofs.lemmas.List.{append_assoc, append-nil, at_drop_more}
use Rattle.std.proofs.lemmas.List.Elements.{All-nil, All-cons, All-head, All-tail, All-append, All-push}
use Rattle.std.proofs.Math.Bool.{and-true, or-false}
use Rattle.pb_part_areas.specs.declared.area.Area.{Area}
use Rattle.pb_part_areas.specs.Areas.{has, have}
use Rattle.pb_part_areas.proofs.Lists.{have_append, have_pushed}
use Rattle.pb_part_firsts.specs.declared.parts.Part.{Part}
use Rattle.pb_part_firsts.specs.Parts.{flat, IsAround, AreAround}

flat_append : (xs ys : List Part) → flat (xs ++ ys) ≡ flat xs ++ flat ys
flat_append [] ys = refl
flat_append (p ∷ xs) ys = ap (λ z. p.areas.items ++ z) (flat_append xs ys) ∙ sym (append_assoc p.areas.items (flat xs) (flat ys))

-- ---- a part is added

flat_pushed : (old new : List Part) (p : Part) → new ≡ old ++ p ∷ [] → flat new ≡ flat old ++ p.areas.items
flat_pushed old new p e = ap flat e ∙ flat_append old (p ∷ []) ∙ ap (λ z. flat old ++ z) (append-nil p.areas.items)

pub part_pushed : (old new : List Part) (p : Part) → new ≡ old ++ p ∷ [] → (n : ℤ) (role : ℕ) (x : ℤ) → have (flat new) n role x ≡ have (flat old) n role x || have p.areas.items n role x
part_pushed old new p e n role x = ap (λ z. have z n role x) (flat_pushed old new p e) ∙ have_append (flat old) p.areas.items n role x

pub pushed_fits : (P : Area → Type 0) (old new : List Part) (p : Part) → new ≡ old ++ p ∷ [] → All P (flat old) → All P p.areas.items → All P (flat new)
pushed_fits P old new p e h k = subst (All P) (sym (flat_pushed old new p e)) (All-append P (flat old) p.areas.items h k)

pub pushed_around : (old new : List Part) (p : Part) → new ≡ old ++ p ∷ [] → AreAround old → IsAround p → AreAround new
pushed_around old new p e h k = subst (All IsAround) (sym e) (All-push IsAround old p h k)

-- ---- a part of one area

pub one_area : (list none : List Area) (a : Area) → none ≡ [] → list ≡ none ++ a ∷ [] → list ≡ a ∷ []
one_area list none a e h = h ∙ ap (λ z. z ++ a ∷ []) e

pub one_added : (old new : List Part) (p : Part) (a : Area) → p.areas.items ≡ a ∷ [] → new ≡ old ++ p ∷ [] → (n : ℤ) (role : ℕ) (x : ℤ) → have (flat new) n role x ≡ have (flat old) n role x || has a n role x
one_added old new p a one e n role x = have_pushed (flat old) (flat new) a (flat_pushed old new p e ∙ ap (λ z. flat old ++ z) one) n role x

pub one_fits : (P : Area → Type 0) (old new : List Part) (p : Part) (a : Area) → p.areas.items ≡ a ∷ [] → new ≡ old ++ p ∷ [] → All P (flat old) → P a → All P (flat new)
one_fits P old new p a one e h k = pushed_fits P old new p e h (subst (All P) (sym one) (All-cons P a [] k (All-nil P)))

or_no : (a r : Bool) → a || false ≡ true → (a ≡ true → r ≡ true) → r ≡ true
or_no true r e h = h refl
or_no false r e h = h e

pub one_around : (p : Part) (a : Area) → p.areas.items ≡ a ∷ [] → p.around ≡ a → IsAround p
one_around p a one e = record {
  around = λ n role x h. or_no (has a n role x) (has p.around n role x) (sym (ap (λ z. have z n role x) one) ∙ h) (λ k. ap (λ z. has z n role x) e ∙ k);
}

-- ---- one more area in a part

pub more_added : (old new : List Part) (p last : Part) (a : Area) → p.areas.items ≡ last.areas.items ++ a ∷ [] → new ≡ old ++ p ∷ [] → (n : ℤ) (role : ℕ) (x : ℤ) →
    have (flat new) n role x ≡ have (flat old) n role x || (have last.areas.items n role x || has a n role x)
more_added old new p last a more e n role x =
    part_pushed old new p e n role x ∙ ap (λ z. have (flat old) n role x || z) (have_pushed last.areas.items p.areas.items a more n role x)

pub more_fits : (P : Area → Type 0) (old new : List Part) (p last : Part) (a : Area) → p.areas.items ≡ last.areas.items ++ a ∷ [] → new ≡ old ++ p ∷ [] → All P (flat old) → All P last.areas.items → P a → All P (flat new)
more_fits P old new p last a more e h l k = pushed_fits P old new p e h (subst (All P) (sym more) (All-push P last.areas.items a l k))

either_in : (l a b : Bool) → l || a ≡ true → (l ≡ true → b ≡ true) → b || a ≡ true
either_in true a b e h = ap (λ z. z || a) (h refl)
either_in false true b e h = grind (arith, nat_tests)
either_in false false b e h = absurd cc

pub more_around : (p last : Part) (a m : Area) → p.areas.items ≡ last.areas.items ++ a ∷ [] → p.around ≡ m → ((n : ℤ) (role : ℕ) (x : ℤ) → has last.around n role x || has a n role x ≡ true → has m n role x ≡ true) →
    IsAround last → IsAround p
more_around p last a m more e wide k = record {
  around = λ n role x h. ap (λ z. has z n role x) e ∙ wide n role x
      (either_in (have last.areas.items n role x) (has a n role x) (has last.around n role x) (sym (have_pushed last.areas.items p.areas.items a more n role x) ∙ h) (k.around n role x));
}

or_three : (n m o l a : Bool) → m ≡ o || l → n ≡ m || a → n ≡ o || (l || a)
or_three n m o l a e h = grind (arith, nat_tests)

pub behind_added : (old mid new : List Part) (last : Part) (a : Area) → mid ≡ old ++ last ∷ [] → (n : ℤ) (role : ℕ) (x : ℤ) →
    have (flat new) n role x ≡ have (flat mid) n role x || has a n role x →
    have (flat new) n role x ≡ have (flat old) n role x || (have last.areas.items n role x || has a n role x)
behind_added old mid new last a e n role x h =
    or_three (have (flat new) n role x) (have (flat mid) n role x) (have (flat old) n role x) (have last.areas.items n role x) (has a n role x) (part_pushed old mid last e n role x) h

-- ---- the last part is taken

three_or : (n m o l a : Bool) → m ≡ o || l → n ≡ o || (l || a) → n ≡ m || a
three_or n m o l a e h = grind (arith, nat_tests)

pub last_added : (old rest new : List Part) (last : Part) (a : Area) → old ≡ rest ++ last ∷ [] → (n : ℤ) (role : ℕ) (x : ℤ) →
    have (flat new) n role x ≡ have (flat rest) n role x || (have last.areas.items n role x || has a n role x) →
    have (flat new) n role x ≡ have (flat old) n role x || has a n role x
last_added old rest new last a e n role x h =
    three_or (have (flat new) n role x) (have (flat old) n role x) (have (flat rest) n role x) (have last.areas.items n role x) (has a n role x) (part_pushed rest old last e n role x) h

all_left : {A : Type 0} (P : A → Type 0) (xs ys : List A) → All P (xs ++ ys) → All P xs
all_left P [] ys h = All-nil P
all_left P (x ∷ xs) ys h = All-cons P x xs (All-head P x (xs ++ ys) h) (all_left P xs ys (All-tail P x (xs ++ ys) h))

all_right : {A : Type 0} (P : A → Type 0) (xs ys : List A) → All P (xs ++ ys) → All P ys
all_right P [] ys h = h
all_right P (x ∷ xs) ys h = all_right P xs ys (All-tail P x (xs ++ ys) h)

pub rest_around : (old rest : List Part) (last : Part) → old ≡ rest ++ last ∷ [] → AreAround old → AreAround rest
rest_around old rest last e h = all_left IsAround rest (last ∷ []) (subst (All IsAround) e h)

pub last_around : (old rest : List Part) (last : Part) → old ≡ rest ++ last ∷ [] → AreAround old → IsAround last
last_around old rest last e h = All-head IsAround last [] (all_right IsAround rest (last ∷ []) (subst (All IsAround) e h))

pub rest_fits : (P : Area → Type 0) (old rest : List Part) (last : Part) → old ≡ rest ++ last ∷ [] → All P (flat old) → All P (flat rest)
rest_fits P old rest last e h = all_left P (flat rest) last.areas.items (subst (All P) (flat_pushed rest old last e) h)

pub last_fits : (P : Area → Type 0) (old rest : List Part) (last : Part) → old ≡ rest ++ last ∷ [] → All P (flat old) → All P last.areas.items
last_fits P old rest last e h = all_right P (flat rest) last.areas.items (subst (All P) (flat_pushed rest old last e) h)

-- ---- what is near a part

pub near_is : (p r m a : Bool) → (p ≡ true → r ≡ true) → m && r ≡ a && r → p ≡ true → m ≡ a
near_is p r m a h e is = sym (and-true m) ∙ ap (λ z. m && z) (sym (h is)) ∙ e ∙ ap (λ z. a && z) (h is) ∙ and-true a

pub under : (p m a : Bool) → (p ≡ true → m ≡ a) → p && m ≡ p && a
under true m a h = h refl
under false m a h = refl

pub under_not : (p m a : Bool) → (p ≡ true → m ≡ a) → p && not m ≡ p && not a
under_not true m a h = ap not (h refl)
under_not false m a h = refl

none_bools : (p r m a : Bool) → (p ≡ true → r ≡ true) → m ≡ false → m && r ≡ a && r → p && a ≡ false
none_bools true r m a h none e = sym (near_is true r m a h e refl) ∙ none
none_bools false r m a h none e = refl

pub none_near : (part : Part) (at met : List Area) → met ≡ [] → IsAround part → (n : ℤ) (role : ℕ) (x : ℤ) → have met n role x && has part.around n role x ≡ have at n role x && has part.around n role x →
    have part.areas.items n role x && have at n role x ≡ false
none_near part at met none k n role x e =
    none_bools (have part.areas.items n role x) (has part.around n role x) (have met n role x) (have at n role x) (k.around n role x) (ap (λ z. have z n role x) none) e

pub whole_bools : (p a : Bool) → p && a ≡ false → p ≡ p && not a
whole_bools true a h = ap not (sym h)
whole_bools false a h = refl

far_bools : (g r t : Bool) → (g ≡ true → r ≡ true) → t && not r ≡ t → false ≡ g && t
far_bools false r t h e = refl
far_bools true r false h e = refl
far_bools true r true h e = sym (ap not (h refl)) ∙ e

pub none_in : (group : Part) (to : Area) (met : List Area) → met ≡ [] → IsAround group → (n : ℤ) (role : ℕ) (x : ℤ) → has to n role x && not (has group.around n role x) ≡ has to n role x →
    have met n role x && has to n role x ≡ have group.areas.items n role x && has to n role x
none_in group to met none k n role x e =
    ap (λ z. have z n role x && has to n role x) none ∙ far_bools (have group.areas.items n role x) (has group.around n role x) (has to n role x) (k.around n role x) e

pub left_whole : (old new : List Part) (part : Part) (at : List Area) → new ≡ old ++ part ∷ [] → (n : ℤ) (role : ℕ) (x : ℤ) → have part.areas.items n role x && have at n role x ≡ false →
    have (flat new) n role x ≡ have (flat old) n role x || (have part.areas.items n role x && not (have at n role x))
left_whole old new part at e n role x h =
    part_pushed old new part e n role x ∙ ap (λ z. have (flat old) n role x || z) (whole_bools (have part.areas.items n role x) (have at n role x) h)

-- ---- one part after the other

out_bools : (w v p a d e l : Bool) → v ≡ w || ((p && a) && e) → w || (((p || d) && a) && e) ≡ l → v || ((d && a) && e) ≡ l
out_bools w v p a d e l h k = grind (arith, nat_tests)

rest_bools : (w v p a d l : Bool) → v ≡ w || (p && not a) → w || ((p || d) && not a) ≡ l → v || (d && not a) ≡ l
rest_bools w v p a d l h k = grind (arith, nat_tests)

pub have_more : (parts rest : List Part) (p : Part) (n : ℤ) (role : ℕ) (x : ℤ) → parts ≡ p ∷ rest → have (flat parts) n role x ≡ have p.areas.items n role x || have (flat rest) n role x
have_more parts rest p n role x is = ap (λ z. have (flat z) n role x) is ∙ have_append p.areas.items (flat rest) n role x

pub out_step : (parts rest : List Part) (p : Part) (w v a e l : Bool) (n : ℤ) (role : ℕ) (x : ℤ) → parts ≡ p ∷ rest → v ≡ w || ((have p.areas.items n role x && a) && e) →
    w || ((have (flat parts) n role x && a) && e) ≡ l → v || ((have (flat rest) n role x && a) && e) ≡ l
out_step parts rest p w v a e l n role x is h k =
    out_bools w v (have p.areas.items n role x) a (have (flat rest) n role x) e l h (sym (ap (λ z. w || ((z && a) && e)) (have_more parts rest p n role x is)) ∙ k)

pub rest_step : (parts rest : List Part) (p : Part) (w v a l : Bool) (n : ℤ) (role : ℕ) (x : ℤ) → parts ≡ p ∷ rest → v ≡ w || (have p.areas.items n role x && not a) →
    w || (have (flat parts) n role x && not a) ≡ l → v || (have (flat rest) n role x && not a) ≡ l
rest_step parts rest p w v a l n role x is h k =
    rest_bools w v (have p.areas.items n role x) a (have (flat rest) n role x) l h (sym (ap (λ z. w || (z && not a)) (have_more parts rest p n role x is)) ∙ k)

pub first_around : (parts rest : List Part) (p : Part) → parts ≡ p ∷ rest → AreAround parts → IsAround p
first_around parts rest p is h = All-head IsAround p rest (subst (All IsAround) is h)

pub others_around : (parts rest : List Part) (p : Part) → parts ≡ p ∷ rest → AreAround parts → AreAround rest
others_around parts rest p is h = All-tail IsAround p rest (subst (All IsAround) is h)

pub first_fits : (P : Area → Type 0) (parts rest : List Part) (p : Part) → parts ≡ p ∷ rest → All P (flat parts) → All P p.areas.items
first_fits P parts rest p is h = all_left P p.areas.items (flat rest) (subst (λ z. All P (flat z)) is h)

pub others_fit : (P : Area → Type 0) (parts rest : List Part) (p : Part) → parts ≡ p ∷ rest → All P (flat parts) → All P (flat rest)
others_fit P parts rest p is h = all_right P p.areas.items (flat rest) (subst (λ z. All P (flat z)) is h)

-- ---- the same parts once more

pub part_ahead : (parts : List Part) (i : ℕ) (p : Part) → i < length parts → p ≡ get_or parts i p → drop i parts ≡ p ∷ drop (i + 1) parts
part_ahead parts i p lt is = at_drop_more (λ z. z) parts i p lt ∙ ap (λ z. z ∷ drop (i + 1) parts) (sym is)

taken_bools : (o o2 p d l : Bool) → o2 ≡ o || p → o || (p || d) ≡ l → o2 || d ≡ l
taken_bools o o2 p d l e h = grind (arith, nat_tests)

pub taken_step : (parts rest : List Part) (p : Part) (o o2 l : Bool) (n : ℤ) (role : ℕ) (x : ℤ) → parts ≡ p ∷ rest → o2 ≡ o || have p.areas.items n role x →
    o || have (flat parts) n role x ≡ l → o2 || have (flat rest) n role x ≡ l
taken_step parts rest p o o2 l n role x is e h =
    taken_bools o o2 (have p.areas.items n role x) (have (flat rest) n role x) l e (sym (ap (λ z. o || z) (have_more parts rest p n role x is)) ∙ h)

pub copy_step : (parts rest : List Part) (p q : Part) (old new : List Part) (l : Bool) (n : ℤ) (role : ℕ) (x : ℤ) → parts ≡ p ∷ rest → new ≡ old ++ q ∷ [] → have q.areas.items n role x ≡ have p.areas.items n role x →
    have (flat old) n role x || have (flat parts) n role x ≡ l → have (flat new) n role x || have (flat rest) n role x ≡ l
copy_step parts rest p q old new l n role x is e same h =
    taken_step parts rest p (have (flat old) n role x) (have (flat new) n role x) l n role x is
    (part_pushed old new q e n role x ∙ ap (λ z. have (flat old) n role x || z) same) h

pub copy_end : (parts : List Part) (i : ℕ) (o l : Bool) (n : ℤ) (role : ℕ) (x : ℤ) → length parts ≤ i → o || have (flat (drop i parts)) n role x ≡ l → o ≡ l
copy_end parts i o l n role x le h = sym (or-false o) ∙ sym (ap (λ z. o || have (flat z) n role x) (drop_of_length-le parts le)) ∙ h

pub copy_around : (p q : Part) → ((n : ℤ) (role : ℕ) (x : ℤ) → have q.areas.items n role x ≡ have p.areas.items n role x) → q.around ≡ p.around → IsAround p → IsAround q
copy_around p q same e k = record { around = λ n role x h. ap (λ z. has z n role x) e ∙ k.around n role x (sym (same n role x) ∙ h) }
