-- What the least solution says of the ranks, and what the answers for less and for more say together.
use Rattle.std.proofs.Common.{◌≡◌, ◌↔◌, ℕ, zero, suc, ◌<◌, ℤ, pos, ◌+ℤ◌, ◌≤ℤ◌, ◌⊎◌, inl, inr, Option, Some, None, List, true, false, Bool, not, ◌&&◌, ◌||◌, if◌then◌else◌, nat_eq, int_lt, int_le, negsuc, MatchOption, refl, sym, ◌∙◌, subst, arith}
use Rattle.std.specs.Ordering.{int_eq}
use Rattle.std.proofs.lemmas.Int.{ints}
use Rattle.std.proofs.lemmas.Bool.Decides.{nat_tests}
use Rattle.pb_affine.specs.declared.lin.Lin.{Lin}
use Rattle.pb_affine.specs.declared.guard.Guard.{Guard}
use Rattle.pb_affine.specs.declared.range.NRange.{NRange}
use Rattle.pb_affine.specs.Values.{value, base_value, shifted, holds, is_at_least, is_at_most, is_from_on, is_up_to}
use Rattle.pb_cases.specs.declared.bad.Bad.{Bad}
use Rattle.pb_cases.specs.Breakpoints.{IsInRange}
use Rattle.pb_cases.specs.Regions.{is_before, IsFirst, IsNowhere}
use Rattle.pb_diff.specs.Systems.{Differences, Satisfies, IsLeastSolution, IsUnsolvable, number}
use Rattle.pb_diff_apart.specs.Apart.{is_apart, is_apart_other, is_below, under, over, IsPlace, lesser}

-- the numbers 0, n and j
point : ℤ → ℤ → ℕ → ℤ
point n j zero = pos 0
point n j (suc zero) = n
point n j (suc (suc v)) = j

role_of : (g : Guard) (n x : ℤ) (r : ℕ) → holds g n (pos 0) r x ≡ true → r ≡ g.role
role_of g n x r h = same r g.role (first (nat_eq r g.role) (is_at_least x g.low n (pos 0)) (is_at_most x g.high n (pos 0)) (is_from_on n g.from) (is_up_to n g.to) h) where
  first : (r p q u v : Bool) → (r && p && q && u && v) ≡ true → r ≡ true
  first true p q u v h = refl
  first false p q u v h = h

  same : (r s : ℕ) → nat_eq r s ≡ true → r ≡ s
  same r s h = grind (arith, nat_tests)

three : (p q r : Bool) → ((p && q) && r) ≡ true → (p ≡ true) × (q ≡ true) × (r ≡ true)
three true true true h = (refl, refl, refl)
three true true false h = absurd (cc)
three true false r h = absurd (cc)
three false q r h = absurd (cc)

less_is : (a b : ℤ) → int_lt a b ≡ true → (a +ℤ pos 1) ≤ℤ b
less_is a b h = grind (arith, ints)

is_less : (a b : ℤ) → (a +ℤ pos 1) ≤ℤ b → int_lt a b ≡ true
is_less a b h = grind (arith, ints)

below_place : (range : NRange) (g h : Guard) (p q : Lin) (n x : ℤ) (r : ℕ) → h.role ≡ g.role → IsInRange range n → is_below g h p q n r x ≡ true → (r ≡ g.role) × IsPlace range g h p q n x
below_place range g h p q n x r same n_in t =
    let all = three (holds g n (pos 0) r x) (holds h n (pos 0) r x) (int_lt (value p n x) (value q n x)) t in (
      role_of g n x r all.0,
      record {
        in_range = n_in;
        in_g = subst (λ z. holds g n (pos 0) z x ≡ true) (role_of g n x r all.0) all.0;
        in_h = subst (λ z. holds h n (pos 0) z x ≡ true) (role_of h n x r all.1) all.1;
        less = less_is (value p n x) (value q n x) all.2;
      },
    )

place_below : (range : NRange) (g h : Guard) (p q : Lin) (n x : ℤ) → h.role ≡ g.role → IsPlace range g h p q n x → is_below g h p q n g.role x ≡ true
place_below range g h p q n x same place =
    let in_h : holds h n (pos 0) g.role x ≡ true = subst (λ z. holds h n (pos 0) z x ≡ true) same place.in_h in
    rw (place.in_g, in_h, is_less (value p n x) (value q n x) place.less) refl

Answers : NRange → Guard → Guard → Lin → Lin → Differences → Type 0
Answers range g h p q d = (s : ℕ → ℤ) → Satisfies d s ↔ ((s 0 ≡ pos 0) × IsPlace range g h p q (s 1) (s 2))

no_less : (r : ℕ) (x y : ℤ) → x ≤ℤ y → is_before r y r x ≡ false
no_less r x y le = grind (arith, ints, nat_tests)

pub none_below : (range : NRange) (g h : Guard) (p q : Lin) (d : Differences) → h.role ≡ g.role → ((s : ℕ → ℤ) → Satisfies d s ↔ ((s 0 ≡ pos 0) × IsPlace range g h p q (s 1) (s 2))) → IsUnsolvable d → IsNowhere range (is_below g h p q)
unfolding point
none_below range g h p q d same solutions fails = record {
  none = λ n r x n_in t. fails.none (point n x) ((solutions (point n x)).1 (refl, (below_place range g h p q n x r same n_in t).1));
}

pub least_below : (range : NRange) (g h : Guard) (p q : Lin) (d : Differences) (xs : List ℤ) → 3 ≡ d.vars → h.role ≡ g.role → ((s : ℕ → ℤ) → Satisfies d s ↔ ((s 0 ≡ pos 0) × IsPlace range g h p q (s 1) (s 2))) → IsLeastSolution d xs → IsFirst range (is_below g h p q) (number xs 1) g.role (number xs 2)
unfolding point
least_below range g h p q d xs vars same solutions least =
    let here = ((solutions (number xs)).0 least.satisfies).1 in
    let one : 1 < d.vars = omega (arith, vars) in
    let two : 2 < d.vars = omega (arith, vars) in
    record {
      in_range = here.in_range;
      there = place_below range g h p q (number xs 1) (number xs 2) same here;
      least_n = λ m r x m_in t. least.least (point m x) ((solutions (point m x)).1 (refl, (below_place range g h p q m x r same m_in t).1)) 1 one;
      least_rank = λ r x t.
          let there = below_place range g h p q (number xs 1) x r same here.in_range t in
          let le : number xs 2 ≤ℤ x = least.least (point (number xs 1) x) ((solutions (point (number xs 1) x)).1 (refl, there.1)) 2 two in
          subst (λ z. is_before z x g.role (number xs 2) ≡ false) (sym there.0) (no_less g.role (number xs 2) x le);
    }

-- where one region or the other has a rank
abbrev Region : Type 0
Region = ℤ → ℕ → ℤ → Bool

alone : (range : NRange) (A B C : Region) (n : ℤ) (s : ℕ) (x : ℤ) → ((m : ℤ) (r : ℕ) (y : ℤ) → C m r y ≡ true → (A m r y ≡ true) ⊎ (B m r y ≡ true)) → ((m : ℤ) (r : ℕ) (y : ℤ) → A m r y ≡ true → C m r y ≡ true) → IsNowhere range B → IsFirst range A n s x → IsFirst range C n s x
alone range A B C n s x split join none first = record {
  in_range = first.in_range;
  there = join n s x first.there;
  least_n = λ m r y m_in t. elim (split m r y t) [ inl a ↦ first.least_n m r y m_in a | inr b ↦ absurd (none.none m r y m_in b) ];
  least_rank = λ r y t. elim (split n r y t) [ inl a ↦ first.least_rank r y a | inr b ↦ absurd (none.none n r y first.in_range b) ];
}

later_rank : (r s t : ℕ) (z y x : ℤ) → t ≡ s → is_before r z s y ≡ false → x ≤ℤ y → is_before r z t x ≡ false
later_rank r s t z y x same h le = grind (arith, ints, nat_tests)

prefer : (range : NRange) (A B C : Region) (x y : Bad) → ((m : ℤ) (r : ℕ) (z : ℤ) → C m r z ≡ true → (A m r z ≡ true) ⊎ (B m r z ≡ true)) → ((m : ℤ) (r : ℕ) (z : ℤ) → A m r z ≡ true → C m r z ≡ true) → x.role ≡ y.role → IsFirst range A x.n x.role x.index → IsFirst range B y.n y.role y.index → x.n ≤ℤ y.n → (y.n ≤ℤ x.n → x.index ≤ℤ y.index) → IsFirst range C x.n x.role x.index
prefer range A B C x y split join same first other le tie = record {
  in_range = first.in_range;
  there = join x.n x.role x.index first.there;
  least_n = λ m r z m_in t. elim (split m r z t) [ inl a ↦ first.least_n m r z m_in a | inr b ↦ let up : y.n ≤ℤ m = other.least_n m r z m_in b in omega (arith, ints, le, up) ];
  least_rank = λ r z t. elim (split x.n r z t) [
    | inl a ↦ first.least_rank r z a
    | inr b ↦
        let up : y.n ≤ℤ x.n = other.least_n x.n r z first.in_range b in
        let at : x.n ≡ y.n = omega (arith, ints, le, up) in
        later_rank r y.role x.role z y.index x.index same (other.least_rank r z (subst (λ m. B m r z ≡ true) at b)) (tie up)
  ];
}

apart_split : (both : Bool) (a b : ℤ) → (both && not (int_eq a b)) ≡ true → ((both && int_lt a b) ≡ true) ⊎ ((both && int_lt b a) ≡ true)
apart_split false a b h = absurd (cc)
apart_split true a b h = by_test (int_lt a b) refl where
  by_test : (t : Bool) → int_lt a b ≡ t → ((true && int_lt a b) ≡ true) ⊎ ((true && int_lt b a) ≡ true)
  by_test true e = inl e
  by_test false e = inr (other a b h e) where
    other : (a b : ℤ) → not (int_eq a b) ≡ true → int_lt a b ≡ false → int_lt b a ≡ true
    other a b h e = grind (arith, ints)

less_apart : (both : Bool) (a b : ℤ) → (both && int_lt a b) ≡ true → (both && not (int_eq a b)) ≡ true
less_apart false a b h = absurd (cc)
less_apart true a b h = differ a b h where
  differ : (a b : ℤ) → int_lt a b ≡ true → not (int_eq a b) ≡ true
  differ a b h = grind (arith, ints)

more_apart : (both : Bool) (a b : ℤ) → (both && int_lt b a) ≡ true → (both && not (int_eq a b)) ≡ true
more_apart false a b h = absurd (cc)
more_apart true a b h = differ a b h where
  differ : (a b : ℤ) → int_lt b a ≡ true → not (int_eq a b) ≡ true
  differ a b h = grind (arith, ints)

earlier_n : (m n : ℤ) (x y : ℤ) → (int_lt m n || (int_eq m n && int_lt x y)) ≡ true → m ≤ℤ n
earlier_n m n x y h = grind (arith, ints)

earlier_tie : (m n : ℤ) (x y : ℤ) → (int_lt m n || (int_eq m n && int_lt x y)) ≡ true → n ≤ℤ m → x ≤ℤ y
earlier_tie m n x y h le = grind (arith, ints)

later_n : (m n : ℤ) (x y : ℤ) → (int_lt m n || (int_eq m n && int_lt x y)) ≡ false → n ≤ℤ m
later_n m n x y h = grind (arith, ints)

later_tie : (m n : ℤ) (x y : ℤ) → (int_lt m n || (int_eq m n && int_lt x y)) ≡ false → m ≤ℤ n → y ≤ℤ x
later_tie m n x y h le = grind (arith, ints)

abbrev pub IsAnswer : NRange → (ℤ → ℕ → ℤ → Bool) → Option Bad → Type 0
IsAnswer range region o = MatchOption o (IsNowhere range region) (λ bad. IsFirst range region bad.n bad.role bad.index)

-- a region of one role that is one or the other of two
pub record IsUnion (role : ℕ) (A B C : ℤ → ℕ → ℤ → Bool) : Type 0 where
  pub split : (m : ℤ) (r : ℕ) (z : ℤ) → C m r z ≡ true → (A m r z ≡ true) ⊎ (B m r z ≡ true)
  pub left : (m : ℤ) (r : ℕ) (z : ℤ) → A m r z ≡ true → C m r z ≡ true
  pub right : (m : ℤ) (r : ℕ) (z : ℤ) → B m r z ≡ true → C m r z ≡ true
  pub own : (m : ℤ) (r : ℕ) (z : ℤ) → C m r z ≡ true → r ≡ role

pub lesser_answers : (range : NRange) (role : ℕ) (A B C : ℤ → ℕ → ℤ → Bool) (a b : Option Bad) → IsUnion role A B C → IsAnswer range A a → IsAnswer range B b → IsAnswer range C (lesser a b)
lesser_answers range role A B C a b u in_a in_b = cases a b in_a in_b where
  turned : (m : ℤ) (r : ℕ) (z : ℤ) → C m r z ≡ true → (B m r z ≡ true) ⊎ (A m r z ≡ true)
  turned m r z t = elim (u.split m r z t) [ inl x ↦ inr x | inr y ↦ inl y ]

  by_test : (x y : Bad) (t : Bool) → (int_lt x.n y.n || (int_eq x.n y.n && int_lt x.index y.index)) ≡ t → x.role ≡ y.role → IsFirst range A x.n x.role x.index → IsFirst range B y.n y.role y.index → IsAnswer range C (if t then Some x else Some y)
  by_test x y true e same f k = prefer range A B C x y u.split u.left same f k (earlier_n x.n y.n x.index y.index e) (earlier_tie x.n y.n x.index y.index e)
  by_test x y false e same f k = prefer range B A C y x turned u.right (sym same) k f (later_n x.n y.n x.index y.index e) (later_tie x.n y.n x.index y.index e)

  cases : (a b : Option Bad) → IsAnswer range A a → IsAnswer range B b → IsAnswer range C (lesser a b)
  cases None None f k = record { none = λ n r x n_in t. elim (u.split n r x t) [ inl l ↦ f.none n r x n_in l | inr m ↦ k.none n r x n_in m ] }
  cases None (Some y) f k = alone range B A C y.n y.role y.index turned u.right f k
  cases (Some x) None f k = alone range A B C x.n x.role x.index u.split u.left k f
  cases (Some x) (Some y) f k =
      let x_own : x.role ≡ role = u.own x.n x.role x.index (u.left x.n x.role x.index f.there) in
      let y_own : y.role ≡ role = u.own y.n y.role y.index (u.right y.n y.role y.index k.there) in
      by_test x y (int_lt x.n y.n || (int_eq x.n y.n && int_lt x.index y.index)) refl (x_own ∙ sym y_own) f k

-- to differ is to be less or to be more
pub apart_union : (g h : Guard) (p q : Lin) → IsUnion g.role (is_below g h p q) (is_below g h q p) (is_apart g h p q)
apart_union g h p q = record {
  split = λ m r z t. apart_split (holds g m (pos 0) r z && holds h m (pos 0) r z) (value p m z) (value q m z) t;
  left = λ m r z t. less_apart (holds g m (pos 0) r z && holds h m (pos 0) r z) (value p m z) (value q m z) t;
  right = λ m r z t. more_apart (holds g m (pos 0) r z && holds h m (pos 0) r z) (value p m z) (value q m z) t;
  own = λ m r z t. role_of g m z r (three (holds g m (pos 0) r z) (holds h m (pos 0) r z) (not (int_eq (value p m z) (value q m z))) t).0;
}

-- guards of two roles hold of no rank together
pub other_role : (range : NRange) (g h : Guard) (p q : Lin) → (g.role ≡ h.role → ⊥) → IsNowhere range (is_apart g h p q)
other_role range g h p q differ = record {
  none = λ n r x n_in t.
      let all = three (holds g n (pos 0) r x) (holds h n (pos 0) r x) (not (int_eq (value p n x) (value q n x))) t in
      differ (sym (role_of g n x r all.0) ∙ role_of h n x r all.1);
}

-- an index other than a lin's value is below it or above it
under_holds : (g : Guard) (but : Lin) (n x : ℤ) (r : ℕ) → r ≡ g.role → (x +ℤ pos 1) ≤ℤ value but n (pos 0) → holds (under g but) n (pos 0) r x ≡ true
under_holds g but n x r same le = five_there r g.role (int_le x (value (shifted but (negsuc 0)) n (pos 0))) same (le_under but.off (base_value but.base n (pos 0)) x le) where
  le_under : (off b x : ℤ) → (x +ℤ pos 1) ≤ℤ (off +ℤ b) → int_le x ((off +ℤ negsuc 0) +ℤ b) ≡ true
  le_under off b x le = grind (arith, ints)

  five_there : (r s : ℕ) (p : Bool) → r ≡ s → p ≡ true → (nat_eq r s && true && p && true && true) ≡ true
  five_there r s p e h = rw (nat_is r s e, h) refl where
    nat_is : (r s : ℕ) → r ≡ s → nat_eq r s ≡ true
    nat_is r s e = grind (arith, nat_tests)

over_holds : (g : Guard) (but : Lin) (n x : ℤ) (r : ℕ) → r ≡ g.role → (value but n (pos 0) +ℤ pos 1) ≤ℤ x → holds (over g but) n (pos 0) r x ≡ true
over_holds g but n x r same le = five_there r g.role (int_le (value (shifted but (pos 1)) n (pos 0)) x) same (le_over but.off (base_value but.base n (pos 0)) x le) where
  le_over : (off b x : ℤ) → ((off +ℤ b) +ℤ pos 1) ≤ℤ x → int_le ((off +ℤ pos 1) +ℤ b) x ≡ true
  le_over off b x le = grind (arith, ints)

  five_there : (r s : ℕ) (p : Bool) → r ≡ s → p ≡ true → (nat_eq r s && p && true && true && true) ≡ true
  five_there r s p e h = rw (nat_is r s e, h) refl where
    nat_is : (r s : ℕ) → r ≡ s → nat_eq r s ≡ true
    nat_is r s e = grind (arith, nat_tests)

third : (r p : Bool) → (r && true && p && true && true) ≡ true → p ≡ true
third true true h = refl
third true false h = absurd (cc)
third false p h = absurd (cc)

second : (r p : Bool) → (r && p && true && true && true) ≡ true → p ≡ true
second true true h = refl
second true false h = absurd (cc)
second false p h = absurd (cc)

under_other : (g : Guard) (but : Lin) (n x : ℤ) (r : ℕ) → holds (under g but) n (pos 0) r x ≡ true → not (int_eq x (value but n (pos 0))) ≡ true
under_other g but n x r h = differ but.off (base_value but.base n (pos 0)) x (third (nat_eq r g.role) (int_le x (value (shifted but (negsuc 0)) n (pos 0))) h) where
  differ : (off b x : ℤ) → int_le x ((off +ℤ negsuc 0) +ℤ b) ≡ true → not (int_eq x (off +ℤ b)) ≡ true
  differ off b x h = grind (arith, ints)

over_other : (g : Guard) (but : Lin) (n x : ℤ) (r : ℕ) → holds (over g but) n (pos 0) r x ≡ true → not (int_eq x (value but n (pos 0))) ≡ true
over_other g but n x r h = differ but.off (base_value but.base n (pos 0)) x (second (nat_eq r g.role) (int_le (value (shifted but (pos 1)) n (pos 0)) x) h) where
  differ : (off b x : ℤ) → int_le ((off +ℤ pos 1) +ℤ b) x ≡ true → not (int_eq x (off +ℤ b)) ≡ true
  differ off b x h = grind (arith, ints)

above_or_below : (x v : ℤ) → not (int_eq x v) ≡ true → ((x +ℤ pos 1) ≤ℤ v) ⊎ ((v +ℤ pos 1) ≤ℤ x)
above_or_below x v h = grind (arith, ints)

and_three : (p q r : Bool) → p ≡ true → q ≡ true → r ≡ true → ((p && q) && r) ≡ true
and_three p q r a b c = rw (a, b, c) refl

pub other_union : (g : Guard) (but p q : Lin) → IsUnion g.role (is_apart g (under g but) p q) (is_apart g (over g but) p q) (is_apart_other g but p q)
other_union g but p q = record {
  split = λ m r z t.
      let all = three (holds g m (pos 0) r z) (not (int_eq z (value but m (pos 0)))) (not (int_eq (value p m z) (value q m z))) t in
      let own : r ≡ g.role = role_of g m z r all.0 in
      elim (above_or_below z (value but m (pos 0)) all.1) [
        | inl le ↦ inl (and_three (holds g m (pos 0) r z) (holds (under g but) m (pos 0) r z) (not (int_eq (value p m z) (value q m z))) all.0 (under_holds g but m z r own le) all.2)
        | inr le ↦ inr (and_three (holds g m (pos 0) r z) (holds (over g but) m (pos 0) r z) (not (int_eq (value p m z) (value q m z))) all.0 (over_holds g but m z r own le) all.2)
      ];
  left = λ m r z t.
      let all = three (holds g m (pos 0) r z) (holds (under g but) m (pos 0) r z) (not (int_eq (value p m z) (value q m z))) t in
      and_three (holds g m (pos 0) r z) (not (int_eq z (value but m (pos 0)))) (not (int_eq (value p m z) (value q m z))) all.0 (under_other g but m z r all.1) all.2;
  right = λ m r z t.
      let all = three (holds g m (pos 0) r z) (holds (over g but) m (pos 0) r z) (not (int_eq (value p m z) (value q m z))) t in
      and_three (holds g m (pos 0) r z) (not (int_eq z (value but m (pos 0)))) (not (int_eq (value p m z) (value q m z))) all.0 (over_other g but m z r all.1) all.2;
  own = λ m r z t. role_of g m z r (three (holds g m (pos 0) r z) (not (int_eq z (value but m (pos 0)))) (not (int_eq (value p m z) (value q m z))) t).0;
}
