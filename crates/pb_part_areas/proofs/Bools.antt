-- Equations of tests.
use Rattle.std.proofs.Common.{◌≡◌, ℕ, ℤ, pos, ◌+ℤ◌, ◌≤ℤ◌, ◌<◌, Bool, true, false, ◌&&◌, ◌||◌, not, int_le, int_lt, refl, arith, nat_eq, ap, ap₂, sym, subst, ◌∙◌}
use Rattle.std.proofs.lemmas.Int.{ints}
use Rattle.std.proofs.lemmas.Bool.Decides.{nat_tests}

pub or_false : (b : Bool) → b ≡ b || false
or_false true = refl
or_false false = refl

pub or_assoc : (a b c : Bool) → a || (b || c) ≡ (a || b) || c
or_assoc true b c = refl
or_assoc false b c = refl

pub since_is : (p f t u r : Bool) → r ≡ f && t → p && r && u ≡ (p && f && u) && t
since_is p f t u r e = grind (arith, nat_tests)

pub until_is : (p f u t r : Bool) → r ≡ u && t → p && f && r ≡ (p && f && u) && t
until_is p f u t r e = grind (arith, nat_tests)

pub nowhere_is : (p : Bool) (n : ℤ) → p && int_le (pos 0) n && int_lt n (pos 0) ≡ false
nowhere_is p n = grind (arith, ints, nat_tests)

-- the end is lowered to the cut where both have the same base
pub end_lowered : (p f u : Bool) (a b c s : Bool) → a ≡ b && c → s ≡ false → (p && a && f && u) || s ≡ (p && b && f && u) && c
end_lowered p f u a b c s h e = grind (arith, nat_tests)

-- from t on the end is at most the cut
pub end_split : (p u : Bool) (x e c n : ℤ) (from t : ℕ) → int_le (pos t) n ≡ int_le (pos 0) n && int_le e c →
    ((p && int_lt x e && int_le (pos from) n && u) && int_le (pos t) n) || ((p && int_lt x c && int_le (pos from) n && u) && int_lt n (pos t)) ≡ (p && int_lt x e && int_le (pos from) n && u) && int_lt x c
end_split p u x e c n from t h = grind (arith, ints, nat_tests)

-- from t on the cut is at most the end
pub end_split_other : (p u : Bool) (x e c n : ℤ) (from t : ℕ) → int_le (pos t) n ≡ int_le (pos 0) n && int_le c e →
    ((p && int_lt x c && int_le (pos from) n && u) && int_le (pos t) n) || ((p && int_lt x e && int_le (pos from) n && u) && int_lt n (pos t)) ≡ (p && int_lt x e && int_le (pos from) n && u) && int_lt x c
end_split_other p u x e c n from t h = grind (arith, ints, nat_tests)

pub low_raised : (p q f u : Bool) (a b c s : Bool) → a ≡ b && c → s ≡ false → (p && a && q && f && u) || s ≡ (p && b && q && f && u) && c
low_raised p q f u a b c s h e = grind (arith, nat_tests)

pub low_split : (p q u : Bool) (x l c n : ℤ) (from t : ℕ) → int_le (pos t) n ≡ int_le (pos 0) n && int_le l c →
    ((p && int_le c x && q && int_le (pos from) n && u) && int_le (pos t) n) || ((p && int_le l x && q && int_le (pos from) n && u) && int_lt n (pos t)) ≡ (p && int_le l x && q && int_le (pos from) n && u) && int_le c x
low_split p q u x l c n from t h = grind (arith, ints, nat_tests)

pub low_split_other : (p q u : Bool) (x l c n : ℤ) (from t : ℕ) → int_le (pos t) n ≡ int_le (pos 0) n && int_le c l →
    ((p && int_le l x && q && int_le (pos from) n && u) && int_le (pos t) n) || ((p && int_le c x && q && int_le (pos from) n && u) && int_lt n (pos t)) ≡ (p && int_le l x && q && int_le (pos from) n && u) && int_le c x
low_split_other p q u x l c n from t h = grind (arith, ints, nat_tests)

-- nothing is lost where the end is below the low end
pub tight_from : (p u : Bool) (x l e n : ℤ) (from t : ℕ) → int_le (pos t) n ≡ int_le (pos 0) n && int_le l e →
    (p && int_le l x && int_lt x e && int_le (pos from) n && u) && int_le (pos t) n ≡ p && int_le l x && int_lt x e && int_le (pos from) n && u
tight_from p u x l e n from t h = grind (arith, ints, nat_tests)

pub tight_until : (p u : Bool) (x l e n : ℤ) (from t : ℕ) → int_le (pos t) n ≡ int_le (pos 0) n && int_le e l →
    (p && int_le l x && int_lt x e && int_le (pos from) n && u) && int_lt n (pos t) ≡ p && int_le l x && int_lt x e && int_le (pos from) n && u
tight_until p u x l e n from t h = grind (arith, ints, nat_tests)

pub none_between : (p f u : Bool) (l e x : ℤ) → e ≤ℤ l → p && int_le l x && int_lt x e && f && u ≡ false
none_between p f u l e x h = grind (arith, ints, nat_tests)

pub none_from : (p u : Bool) (l e low end x n : ℤ) (from : ℕ) → low ≡ l +ℤ n → end ≡ e → (e +ℤ pos 0) ≤ℤ (l +ℤ pos from) →
    p && int_le low x && int_lt x end && int_le (pos from) n && u ≡ false
none_from p u l e low end x n from hl he h = grind (arith, ints, nat_tests)

pub none_until : (p f : Bool) (l e low end x n : ℤ) (until : ℕ) → low ≡ l → end ≡ e +ℤ n → (e +ℤ pos until) ≤ℤ (l +ℤ pos 1) →
    p && int_le low x && int_lt x end && f && int_lt n (pos until) ≡ false
none_until p f l e low end x n until hl he h = grind (arith, ints, nat_tests)

-- what is left of an area without another of the same role, part by part: before, behind, below, above
minus_same : (o w r f u i j : Bool) → (w ≡ true → r ≡ true) →
    (((o || (w && not f)) || (w && not u)) || (((w && f) && u) && not i)) || (((w && f) && u) && not j) ≡ o || (w && not (r && i && j && f && u))
minus_same o w r f u i j h = grind (arith, nat_tests)

int_lt_not : (x c : ℤ) → int_lt x c ≡ not (int_le c x)
int_lt_not x c = grind (arith, ints)

int_le_not : (x c : ℤ) → int_le c x ≡ not (int_lt x c)
int_le_not x c = grind (arith, ints)

pub minus_chain : (o o1 o2 o3 o4 w p1 p2 s1 part two1 two2 r u : Bool) (n from x low end : ℤ) → (w ≡ true → r ≡ true) →
    o1 ≡ o || p1 → p1 ≡ w && int_lt n from → o2 ≡ o1 || p2 → p2 ≡ w && not u → s1 ≡ w && int_le from n → part ≡ s1 && u →
    o3 ≡ o2 || two1 → two1 ≡ part && int_lt x low → o4 ≡ o3 || two2 → two2 ≡ part && int_le end x →
    o4 ≡ o || (w && not (r && int_le low x && int_lt x end && int_le from n && u))
minus_chain o o1 o2 o3 o4 w p1 p2 s1 part two1 two2 r u n from x low end h e1 d1 e2 d2 ds dp e3 d3 e4 d4 =
    let l1 = int_lt_not n from in
    let l2 = int_lt_not x low in
    let l3 = int_le_not x end in
    let e : o4 ≡ (((o || (w && not (int_le from n))) || (w && not u)) || (((w && int_le from n) && u) && not (int_le low x))) || (((w && int_le from n) && u) && not (int_lt x end)) = cc in
    e ∙ minus_same o w r (int_le from n) u (int_le low x) (int_lt x end) h

pub first_true : (p q r f u : Bool) → p && q && r && f && u ≡ true → p ≡ true
first_true p q r f u h = grind (arith, nat_tests)

overlap_same : (o t1 t2 w r f u i j : Bool) → (w ≡ true → r ≡ true) → t1 || t2 ≡ ((w && f) && u) && i →
    (o || (t1 && j)) || (t2 && j) ≡ o || (w && (r && i && j && f && u))
overlap_same o t1 t2 w r f u i j h e = grind (arith, nat_tests)

pub overlap_chain : (o o1 o2 w t1 t2 q1 q2 s1 part r f u i j : Bool) → (w ≡ true → r ≡ true) →
    s1 ≡ w && f → part ≡ s1 && u → t1 || t2 ≡ part && i → q1 ≡ t1 && j → q2 ≡ t2 && j → o1 ≡ o || q1 → o2 ≡ o1 || q2 →
    o2 ≡ o || (w && (r && i && j && f && u))
overlap_chain o o1 o2 w t1 t2 q1 q2 s1 part r f u i j h ds dp dt d1 d2 e1 e2 =
    let k : t1 || t2 ≡ ((w && f) && u) && i = cc in
    let e : o2 ≡ (o || (t1 && j)) || (t2 && j) = cc in
    e ∙ overlap_same o t1 t2 w r f u i j h k

pub over_bools : (p f u : Bool) → f && u ≡ false → p && f && u ≡ false
over_bools p f u h = grind (arith, nat_tests)

roles_apart_bools : (role a b : ℕ) (o q r f u q' r' f' u' : Bool) → (a ≡ b → ⊥) → o ≡ o || ((nat_eq role a && q && r && f && u) && (nat_eq role b && q' && r' && f' && u'))
roles_apart_bools role a b o q r f u q' r' f' u' h = grind (arith, nat_tests)

pub roles_apart : (role a b : ℕ) (o q r f u q' r' f' u' : Bool) → (a ≡ b → ⊥) → o ≡ o || ((nat_eq role a && q && r && f && u) && (nat_eq role b && q' && r' && f' && u'))
roles_apart = roles_apart_bools

roles_differ_bools : (role a b : ℕ) (o q r f u q' r' f' u' : Bool) → (a ≡ b → ⊥) → o || (nat_eq role a && q && r && f && u) ≡ o || ((nat_eq role a && q && r && f && u) && not (nat_eq role b && q' && r' && f' && u'))
roles_differ_bools role a b o q r f u q' r' f' u' h = grind (arith, nat_tests)

pub roles_differ : (role a b : ℕ) (o q r f u q' r' f' u' : Bool) → (a ≡ b → ⊥) → o || (nat_eq role a && q && r && f && u) ≡ o || ((nat_eq role a && q && r && f && u) && not (nat_eq role b && q' && r' && f' && u'))
roles_differ = roles_differ_bools

-- two neighbours along the index
pub side_by_side : (p f u : Bool) (x l m e : ℤ) → (f && u ≡ true → l ≤ℤ m) → (f && u ≡ true → m ≤ℤ e) →
    p && int_le l x && int_lt x e && f && u ≡ (p && int_le l x && int_lt x m && f && u) || (p && int_le m x && int_lt x e && f && u)
side_by_side p f u x l m e hl he = grind (arith, ints, nat_tests)

-- two neighbours along N, with or without an end
pub one_after_other : (p : Bool) (n : ℤ) (from m until : ℕ) → from < m → m < until →
    p && int_le (pos from) n && int_lt n (pos until) ≡ (p && int_le (pos from) n && int_lt n (pos m)) || (p && int_le (pos m) n && int_lt n (pos until))
one_after_other p n from m until h k = grind (arith, ints, nat_tests)

pub one_after_other_open : (p : Bool) (n : ℤ) (from m : ℕ) → from < m →
    p && int_le (pos from) n && true ≡ (p && int_le (pos from) n && int_lt n (pos m)) || (p && int_le (pos m) n && true)
one_after_other_open p n from m h = grind (arith, ints, nat_tests)

-- the same with the second's tests apart
pub side_by_side_of : (p p2 f f2 u u2 : Bool) (x l m m2 e : ℤ) → p ≡ p2 → m ≡ m2 → f ≡ f2 → u ≡ u2 → (f && u ≡ true → l ≤ℤ m) → (f2 && u2 ≡ true → m2 ≤ℤ e) →
    p && int_le l x && int_lt x e && f && u ≡ (p && int_le l x && int_lt x m && f && u) || (p2 && int_le m2 x && int_lt x e && f2 && u2)
side_by_side_of p p2 f f2 u u2 x l m m2 e ep em ef eu hl he =
    let he2 : f && u ≡ true → m ≤ℤ e = λ k. subst (λ z. z ≤ℤ e) (sym em) (he (ap₂ (λ y z. y && z) (sym ef) (sym eu) ∙ k)) in
    let second : p2 && int_le m2 x && int_lt x e && f2 && u2 ≡ p && int_le m x && int_lt x e && f && u = cc in
    side_by_side p f u x l m e hl he2 ∙ ap (λ z. (p && int_le l x && int_lt x m && f && u) || z) (sym second)

pub joined_bools : (x y g a m o : Bool) → x ≡ y || g → m ≡ g || a → x || a ≡ o → y || m ≡ o
joined_bools x y g a m o e h k = grind (arith, nat_tests)
