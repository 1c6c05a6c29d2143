-- One role at a time: the guards of a role decide its ranks, and the earliest answer of all roles is the answer.
use Rattle.std.proofs.Common.{◌≡◌, ℕ, suc, ◌+◌, ◌<◌, ◌≤◌, ℤ, pos, ◌≤ℤ◌, ◌⊎◌, inl, inr, Option, Some, None, List, [], ◌∷◌, length, true, false, Bool, not, ◌&&◌, ◌||◌, if◌then◌else◌, nat_eq, int_lt, refl, sym, ap, ap₂, ◌∙◌, subst, arith, MatchOption}
use Rattle.std.specs.Ordering.{int_eq}
use Rattle.std.proofs.lemmas.Int.{ints}
use Rattle.std.proofs.lemmas.Bool.Decides.{nat_tests}
use borrow.Author.Count.{below_more}
use Rattle.std.specs.List.{All}
use Rattle.std.proofs.lemmas.List.Elements.{All-nil, All-cons, All-head, All-tail, All-weaker}
use Rattle.std.proofs.lemmas.Bool.{or_cases}
use Rattle.pb_affine.specs.declared.guard.Guard.{Guard}
use Rattle.pb_affine.specs.declared.range.NRange.{NRange}
use Rattle.pb_affine.specs.Values.{holds, hold, is_at_least, is_at_most, is_from_on, is_up_to}
use Rattle.pb_cases.specs.declared.region.Wanted.{Wanted}
use Rattle.pb_cases.specs.declared.region.Wanted.TheVariants.{Both, FirstAlone}
use Rattle.pb_cases.specs.declared.bad.Bad.{Bad}
use Rattle.pb_cases.specs.Breakpoints.{Division, IsInRange}
use Rattle.pb_cases.specs.Bounds.{IsAligned, IsBounded}
use Rattle.pb_cases.specs.Regions.{IsFirst, IsNowhere, is_before, is_wanted}
use Rattle.pb_cases.specs.Search.{IsOfRole}
use Rattle.pb_cases.specs.Roles.{IsSoFar, IsSoundBad, earlier, guard_at, is_earlier, is_earlier_than, of_role}
use Rattle.pb_cases.proofs.Ends.{wanted_first}

pub of_role_hold : (gs : List Guard) (n x : ℤ) (role : ℕ) → hold (of_role role gs) n (pos 0) role x ≡ hold gs n (pos 0) role x
of_role_hold [] n x role = refl
of_role_hold (g ∷ gs) n x role = by_role (nat_eq role g.role) refl (of_role_hold gs n x role) where
  by_role : (t : Bool) → nat_eq role g.role ≡ t → hold (of_role role gs) n (pos 0) role x ≡ hold gs n (pos 0) role x → hold (if t then (g ∷ of_role role gs) else of_role role gs) n (pos 0) role x ≡ (holds g n (pos 0) role x || hold gs n (pos 0) role x)
  by_role true e more = ap (λ v. holds g n (pos 0) role x || v) more
  by_role false e more = let none : holds g n (pos 0) role x ≡ false = rw e refl in more ∙ ap (λ v. v || hold gs n (pos 0) role x) (sym none)

role_is : (r s : ℕ) → nat_eq r s ≡ true → s ≡ r
role_is r s h = grind (arith, nat_tests)

pub all_of_role : (P : Guard → Type 0) (role : ℕ) (gs : List Guard) → All P gs → All P (of_role role gs)
all_of_role P role [] all = All-nil P
all_of_role P role (g ∷ gs) all = by_role (nat_eq role g.role) (all_of_role P role gs (All-tail P g gs all)) where
  by_role : (t : Bool) → All P (of_role role gs) → All P (if t then (g ∷ of_role role gs) else of_role role gs)
  by_role true more = All-cons P g (of_role role gs) (All-head P g gs all) more
  by_role false more = more

pub own_of_role : (role : ℕ) (gs : List Guard) → All (IsOfRole role) (of_role role gs)
own_of_role role [] = All-nil (IsOfRole role)
own_of_role role (g ∷ gs) = by_role (nat_eq role g.role) refl (own_of_role role gs) where
  by_role : (t : Bool) → nat_eq role g.role ≡ t → All (IsOfRole role) (of_role role gs) → All (IsOfRole role) (if t then (g ∷ of_role role gs) else of_role role gs)
  by_role true e more = All-cons (IsOfRole role) g (of_role role gs) (role_is role g.role e) more
  by_role false e more = more

five_role : (g : Guard) (n x : ℤ) (r : ℕ) → holds g n (pos 0) r x ≡ true → nat_eq r g.role ≡ true
five_role g n x r h = take (nat_eq r g.role) (is_at_least x g.low n (pos 0)) (is_at_most x g.high n (pos 0)) (is_from_on n g.from) (is_up_to n g.to) h where
  take : (r p q u v : Bool) → (r && p && q && u && v) ≡ true → r ≡ true
  take true p q u v h = refl
  take false p q u v h = h

-- a list that holds of a rank has a guard of its role
pub some_role : (gs : List Guard) (n x : ℤ) (r : ℕ) → hold gs n (pos 0) r x ≡ true → (k : ℕ) × (k < length gs) × ((guard_at gs k).role ≡ r)
some_role [] n x r h = absurd (cc)
some_role (g ∷ gs) n x r h = cases (or_cases (holds g n (pos 0) r x) (hold gs n (pos 0) r x) h) (some_role gs n x r) where
  cases : (holds g n (pos 0) r x ≡ true) ⊎ (hold gs n (pos 0) r x ≡ true) → (hold gs n (pos 0) r x ≡ true → (k : ℕ) × (k < length gs) × ((guard_at gs k).role ≡ r)) → (k : ℕ) × (k < length (g ∷ gs)) × ((guard_at (g ∷ gs) k).role ≡ r)
  cases (inl here) more = (0, omega arith, role_is r g.role (five_role g n x r here))
  cases (inr there) more = let m = more there in let lt : m.0 < length gs = m.1 in (suc m.0, omega arith, m.2)

one_role : (gs : List Guard) (n x : ℤ) (r role : ℕ) → All (IsOfRole role) gs → hold gs n (pos 0) r x ≡ true → r ≡ role
one_role [] n x r role own h = absurd (cc)
one_role (g ∷ gs) n x r role own h = cases (or_cases (holds g n (pos 0) r x) (hold gs n (pos 0) r x) h) (one_role gs n x r role (All-tail (IsOfRole role) g gs own)) where
  cases : (holds g n (pos 0) r x ≡ true) ⊎ (hold gs n (pos 0) r x ≡ true) → (hold gs n (pos 0) r x ≡ true → r ≡ role) → r ≡ role
  cases (inl here) more = sym (role_is r g.role (five_role g n x r here)) ∙ All-head (IsOfRole role) g gs own
  cases (inr there) more = more there

part_same : (wanted : Wanted) (a b : List Guard) (n x : ℤ) (role : ℕ) → is_wanted wanted (of_role role a) (of_role role b) n role x ≡ is_wanted wanted a b n role x
part_same Both a b n x role = ap₂ (λ u v. u && v) (of_role_hold a n x role) (of_role_hold b n x role)
part_same FirstAlone a b n x role = ap₂ (λ u v. u && not v) (of_role_hold a n x role) (of_role_hold b n x role)

-- what the answer for one role says
pub record IsPart (range : NRange) (wanted : Wanted) (a b : List Guard) (role : ℕ) (o : Option Bad) : Type 0 where
  pub sound : IsSoundBad range wanted a b o
  pub least : (m x : ℤ) → IsInRange range m → is_wanted wanted a b m role x ≡ true → is_earlier_than m role x o ≡ false

not_earlier : (m n : ℤ) (r s : ℕ) (x y : ℤ) → n ≤ℤ m → (m ≡ n → is_before r x s y ≡ false) → is_earlier m r x n s y ≡ false
not_earlier m n r s x y le h = by_test (int_eq m n) refl where
  by_test : (t : Bool) → int_eq m n ≡ t → (int_lt m n || (t && is_before r x s y)) ≡ false
  by_test true e = let same : m ≡ n = grind (arith, ints) in let b = h same in let lt : int_lt m n ≡ false = grind (arith, ints) in rw (lt, b) refl
  by_test false e = let lt : int_lt m n ≡ false = grind (arith, ints) in rw lt refl

pub part_of : (range : NRange) (wanted : Wanted) (a b : List Guard) (role : ℕ) (o : Option Bad) → MatchOption o (IsNowhere range (is_wanted wanted (of_role role a) (of_role role b))) (λ bad. IsFirst range (is_wanted wanted (of_role role a) (of_role role b)) bad.n bad.role bad.index) → IsPart range wanted a b role o
part_of range wanted a b role None none = record { sound = tt; least = λ m x m_in h. absurd (none.none m role x m_in (part_same wanted a b m x role ∙ h)) }
part_of range wanted a b role (Some bad) f =
    let same : bad.role ≡ role = one_role (of_role role a) bad.n bad.index bad.role role (own_of_role role a) (wanted_first wanted (of_role role a) (of_role role b) bad.n bad.role bad.index f.there) in
    let whole : is_wanted wanted a b bad.n role bad.index ≡ true = sym (part_same wanted a b bad.n bad.index role) ∙ subst (λ r. is_wanted wanted (of_role role a) (of_role role b) bad.n r bad.index ≡ true) same f.there in
    record {
      sound = (f.in_range, subst (λ r. is_wanted wanted a b bad.n r bad.index ≡ true) (sym same) whole);
      least = λ m x m_in h.
          let there : is_wanted wanted (of_role role a) (of_role role b) m role x ≡ true = part_same wanted a b m x role ∙ h in
          not_earlier m bad.n role bad.role x bad.index (f.least_n m role x m_in there) (λ e. f.least_rank role x (subst (λ z. is_wanted wanted (of_role role a) (of_role role b) z role x ≡ true) e there));
    }

earlier_trans : (m n k : ℤ) (r s t : ℕ) (x y z : ℤ) → is_earlier m r x n s y ≡ false → is_earlier k t z n s y ≡ true → is_earlier m r x k t z ≡ false
earlier_trans m n k r s t x y z h g = grind (arith, ints, nat_tests)

earlier_down : (m n k : ℤ) (r s t : ℕ) (x y z : ℤ) → is_earlier m r x k t z ≡ false → is_earlier k t z n s y ≡ false → is_earlier m r x n s y ≡ false
earlier_down m n k r s t x y z h g = grind (arith, ints, nat_tests)

over_new : (best : Option Bad) (c : Bad) (m x : ℤ) (r : ℕ) → is_earlier_than m r x best ≡ false → is_earlier_than c.n c.role c.index best ≡ true → is_earlier m r x c.n c.role c.index ≡ false
over_new None c m x r h g = absurd (cc)
over_new (Some b) c m x r h g = earlier_trans m b.n c.n r b.role c.role x b.index c.index h g

over_old : (best : Option Bad) (c : Bad) (m x : ℤ) (r : ℕ) → is_earlier m r x c.n c.role c.index ≡ false → is_earlier_than c.n c.role c.index best ≡ false → is_earlier_than m r x best ≡ false
over_old None c m x r h g = absurd (cc)
over_old (Some b) c m x r h g = earlier_down m b.n c.n r b.role c.role x b.index c.index h g

abbrev Least : NRange → Wanted → List Guard → List Guard → Option Bad → ℕ → Type 0
Least range wanted a b o k = (m x : ℤ) → IsInRange range m → is_wanted wanted a b m (guard_at a k).role x ≡ true → is_earlier_than m (guard_at a k).role x o ≡ false

pub earlier_step : (range : NRange) (wanted : Wanted) (a b : List Guard) (i : ℕ) (best o : Option Bad) → IsSoFar range wanted a b i best → IsPart range wanted a b (guard_at a i).role o → IsSoFar range wanted a b (i + 1) (earlier best o)
earlier_step range wanted a b i best None so_far part = record {
  sound = so_far.sound;
  least = below_more (Least range wanted a b best) i so_far.least (λ m x m_in h. let never : true ≡ false = part.least m x m_in h in absurd (cc));
}
earlier_step range wanted a b i best (Some c) so_far part = by_test (is_earlier_than c.n c.role c.index best) refl where
  by_test : (t : Bool) → is_earlier_than c.n c.role c.index best ≡ t → IsSoFar range wanted a b (i + 1) (if t then Some c else best)
  by_test true e = record {
    sound = part.sound;
    least = below_more (Least range wanted a b (Some c)) i (λ k k_lt m x m_in h. over_new best c m x (guard_at a k).role (so_far.least k k_lt m x m_in h) e) part.least;
  }
  by_test false e = record {
    sound = so_far.sound;
    least = below_more (Least range wanted a b best) i so_far.least (λ m x m_in h. over_old best c m x (guard_at a i).role (part.least m x m_in h) e);
  }

pub seen_step : (range : NRange) (wanted : Wanted) (a b : List Guard) (i j : ℕ) (best : Option Bad) → j < i → (guard_at a j).role ≡ (guard_at a i).role → IsSoFar range wanted a b i best → IsSoFar range wanted a b (i + 1) best
seen_step range wanted a b i j best lt same so_far = record {
  sound = so_far.sound;
  least = below_more (Least range wanted a b best) i so_far.least (subst (λ r. (m x : ℤ) → IsInRange range m → is_wanted wanted a b m r x ≡ true → is_earlier_than m r x best ≡ false) same (so_far.least j lt));
}

pub so_far_first : (range : NRange) (wanted : Wanted) (a b : List Guard) → IsSoFar range wanted a b 0 None
so_far_first range wanted a b = record { sound = tt; least = λ k lt. absurd (omega arith) }

n_le : (m n : ℤ) (r s : ℕ) (x y : ℤ) → is_earlier m r x n s y ≡ false → n ≤ℤ m
n_le m n r s x y h = grind (arith, ints)

rank_le : (n : ℤ) (r s : ℕ) (x y : ℤ) → is_earlier n r x n s y ≡ false → is_before r x s y ≡ false
rank_le n r s x y h = grind (arith, ints)

pub whole_first : (range : NRange) (wanted : Wanted) (a b : List Guard) (i : ℕ) (o : Option Bad) → length a ≤ i → IsSoFar range wanted a b i o → MatchOption o (IsNowhere range (is_wanted wanted a b)) (λ bad. IsFirst range (is_wanted wanted a b) bad.n bad.role bad.index)
whole_first range wanted a b i o le so_far = by_case o so_far.sound all where
  all : (m : ℤ) (r : ℕ) (x : ℤ) → IsInRange range m → is_wanted wanted a b m r x ≡ true → is_earlier_than m r x o ≡ false
  all m r x m_in h =
      let k = some_role a m x r (wanted_first wanted a b m r x h) in
      let k_lt : k.0 < length a = k.1 in
      subst (λ q. is_wanted wanted a b m q x ≡ true → is_earlier_than m q x o ≡ false) k.2 (so_far.least k.0 (omega arith) m x m_in) h

  by_case : (o : Option Bad) → IsSoundBad range wanted a b o → ((m : ℤ) (r : ℕ) (x : ℤ) → IsInRange range m → is_wanted wanted a b m r x ≡ true → is_earlier_than m r x o ≡ false) → MatchOption o (IsNowhere range (is_wanted wanted a b)) (λ bad. IsFirst range (is_wanted wanted a b) bad.n bad.role bad.index)
  by_case None sound all = record { none = λ n r x n_in h. let never : true ≡ false = all n r x n_in h in cc }
  by_case (Some bad) sound all = record { in_range = sound.0; there = sound.1; least_n = λ m r x m_in h. n_le m bad.n r bad.role x bad.index (all m r x m_in h); least_rank = λ r x h. rank_le bad.n r bad.role x bad.index (all bad.n r x sound.0 h) }

pub all_bounded : (d : Division) (gs : List Guard) → All (IsAligned d) gs → All IsBounded gs
all_bounded d gs all = All-weaker (IsAligned d) IsBounded (λ g c. c.bounded) gs all
