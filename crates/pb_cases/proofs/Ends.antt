-- Where a region has a rank, it has one at an end of a guard, and no later: so the ends are enough to try.
use Rattle.std.proofs.Common.{◌≡◌, ℕ, ℤ, pos, ◌+ℤ◌, ◌≤ℤ◌, ◌⊎◌, inl, inr, Some, List, [], ◌∷◌, ◌++◌, true, false, Bool, not, ◌&&◌, ◌||◌, if◌then◌else◌, nat_eq, int_le, refl, sym, ap₂, ◌∙◌, subst, arith}
use Rattle.std.proofs.lemmas.Int.{ints}
use Rattle.std.specs.List.{All, Contains}
use Rattle.std.proofs.lemmas.List.Elements.{All-head, All-tail}
use Rattle.std.proofs.lemmas.Bool.{and_parts, or_cases}
use Rattle.pb_affine.specs.declared.lin.Lin.{Lin}
use Rattle.pb_affine.specs.declared.guard.Guard.{Guard}
use Rattle.pb_affine.specs.Values.{holds, hold, is_at_least, is_at_most, is_from_on, is_up_to}
use Rattle.pb_cases.specs.declared.region.Wanted.{Wanted}
use Rattle.pb_cases.specs.declared.region.Wanted.TheVariants.{Both, FirstAlone}
use Rattle.pb_cases.specs.Breakpoints.{Division, IsDivision}
use Rattle.pb_cases.specs.Bounds.{IsAligned, after, high_end, low_end, or_zero}
use Rattle.pb_cases.specs.Regions.{is_wanted}
use Rattle.pb_cases.proofs.Stretch.{at, IsStretch, same_guards, next_value, five}

abbrev pub Each : (Lin → Type 0) → List Lin → Type 0
Each P [] = Unit {0}
Each P (x ∷ xs) = P x × Each P xs

-- the ends of the guards of a role
abbrev pub own_ends : ℕ → List Guard → List Lin
own_ends role [] = []
own_ends role (g ∷ gs) = if nat_eq role g.role then (low_end g ∷ high_end g ∷ own_ends role gs) else own_ends role gs

-- e is the last end that x is not below
record IsTop (P : Lin → Type 0) (n x : ℤ) (xs : List Lin) (e0 : Lin) : Type 0 where
  e : Lin
  has : P e
  le : at e n ≤ℤ x
  over : at e0 n ≤ℤ at e n
  most : Each (λ f. at f n ≤ℤ x → at f n ≤ℤ at e n) xs

pick : (u v x : ℤ) → ((v ≤ℤ x) × (u ≤ℤ v)) ⊎ (v ≤ℤ x → v ≤ℤ u)
pick u v x = grind (arith, ints)

top : (P : Lin → Type 0) (n x : ℤ) (xs : List Lin) (e0 : Lin) → P e0 → at e0 n ≤ℤ x → Each P xs → IsTop P n x xs e0
top P n x [] e0 p le each = record { e = e0; has = p; le = le; over = omega (arith, ints); most = tt }
top P n x (f ∷ fs) e0 p le each = choose (pick (at e0 n) (at f n) x) (λ e q l. top P n x fs e q l each.1) where
  choose : ((at f n ≤ℤ x) × (at e0 n ≤ℤ at f n)) ⊎ (at f n ≤ℤ x → at f n ≤ℤ at e0 n) → ((e : Lin) → P e → at e n ≤ℤ x → IsTop P n x fs e) → IsTop P n x (f ∷ fs) e0
  choose (inl h) more = let t = more f each.0 h.0 in record { e = t.e; has = t.has; le = t.le; over = omega (arith, ints, h.1, t.over); most = (λ _. t.over, t.most) }
  choose (inr h) more = let t = more e0 p le in record { e = t.e; has = t.has; le = t.le; over = t.over; most = (λ g. omega (arith, ints, h g, t.over), t.most) }

each_append : (P : Lin → Type 0) (xs ys : List Lin) → Each P xs → Each P ys → Each P (xs ++ ys)
each_append P [] ys p q = q
each_append P (x ∷ xs) ys p q = (p.0, each_append P xs ys p.1 q)

each_left : (P : Lin → Type 0) (xs ys : List Lin) → Each P (xs ++ ys) → Each P xs
each_left P [] ys p = tt
each_left P (x ∷ xs) ys p = (p.0, each_left P xs ys p.1)

each_right : (P : Lin → Type 0) (xs ys : List Lin) → Each P (xs ++ ys) → Each P ys
each_right P [] ys p = p
each_right P (x ∷ xs) ys p = each_right P xs ys p.1

low_settles : (l v x : ℤ) → v ≤ℤ x → (l ≤ℤ x → l ≤ℤ v) → int_le l v ≡ int_le l x
low_settles l v x le most = grind (arith, ints)

high_settles : (h v x : ℤ) → v ≤ℤ x → ((h +ℤ pos 1) ≤ℤ x → (h +ℤ pos 1) ≤ℤ v) → int_le v h ≡ int_le x h
high_settles h v x le most = grind (arith, ints)

-- a guard holds at the last end before x exactly where it holds at x
settles : (g : Guard) (n : ℤ) (v x : ℤ) (role : ℕ) → g.low ≡ Some (low_end g) → g.high ≡ Some (or_zero g.high) → v ≤ℤ x → (at (low_end g) n ≤ℤ x → at (low_end g) n ≤ℤ v) → (at (high_end g) n ≤ℤ x → at (high_end g) n ≤ℤ v) → holds g n (pos 0) role v ≡ holds g n (pos 0) role x
settles g n v x role low_is high_is le low high =
    five (nat_eq role g.role) (is_at_least v g.low n (pos 0)) (is_at_most v g.high n (pos 0)) (is_from_on n g.from) (is_up_to n g.to) (is_at_least x g.low n (pos 0)) (is_at_most x g.high n (pos 0)) (is_from_on n g.from) (is_up_to n g.to)
    low_same high_same refl refl where
      low_same : is_at_least v g.low n (pos 0) ≡ is_at_least x g.low n (pos 0)
      low_same = subst (λ o. is_at_least v o n (pos 0) ≡ is_at_least x o n (pos 0)) (sym low_is) (low_settles (at (low_end g) n) v x le low)

      high_same : is_at_most v g.high n (pos 0) ≡ is_at_most x g.high n (pos 0)
      high_same =
          let h = or_zero g.high in
          let e : at (after h) n ≡ at h n +ℤ pos 1 = next_value h n in
          let high_next : (at h n +ℤ pos 1) ≤ℤ x → (at h n +ℤ pos 1) ≤ℤ v = subst (λ z. z ≤ℤ x → z ≤ℤ v) e high in
          subst (λ o. is_at_most v o n (pos 0) ≡ is_at_most x o n (pos 0)) (sym high_is) (high_settles (at h n) v x le high_next)

other_role : (g : Guard) (n v x : ℤ) (role : ℕ) → nat_eq role g.role ≡ false → holds g n (pos 0) role v ≡ holds g n (pos 0) role x
other_role g n v x role e = rw e refl

all_settle : (d : Division) (gs : List Guard) (n v x : ℤ) (role : ℕ) → All (IsAligned d) gs → v ≤ℤ x → Each (λ f. at f n ≤ℤ x → at f n ≤ℤ v) (own_ends role gs) → hold gs n (pos 0) role v ≡ hold gs n (pos 0) role x
all_settle d [] n v x role aligned le most = refl
all_settle d (g ∷ gs) n v x role aligned le most = by_role (nat_eq role g.role) refl most (all_settle d gs n v x role (All-tail (IsAligned d) g gs aligned) le) where
  own : IsAligned d g
  own = All-head (IsAligned d) g gs aligned

  by_role : (t : Bool) → nat_eq role g.role ≡ t → Each (λ f. at f n ≤ℤ x → at f n ≤ℤ v) (if t then (low_end g ∷ high_end g ∷ own_ends role gs) else own_ends role gs) → (Each (λ f. at f n ≤ℤ x → at f n ≤ℤ v) (own_ends role gs) → hold gs n (pos 0) role v ≡ hold gs n (pos 0) role x) → (holds g n (pos 0) role v || hold gs n (pos 0) role v) ≡ (holds g n (pos 0) role x || hold gs n (pos 0) role x)
  by_role true e each more = ap₂ (λ p q. p || q) (settles g n v x role own.bounded.low_is own.bounded.high_is le each.0 each.1.0) (more each.1.1)
  by_role false e each more = ap₂ (λ p q. p || q) (other_role g n v x role e) (more each)

-- a guard of the role that holds at x has its low end at x or before
record IsBelow (P : Lin → Type 0) (n x : ℤ) : Type 0 where
  e : Lin
  has : P e
  le : at e n ≤ℤ x

five_low : (r p q u v : Bool) → (r && p && q && u && v) ≡ true → (r ≡ true) × (p ≡ true)
five_low true true q u v h = (refl, refl)
five_low true false q u v h = absurd (cc)
five_low false p q u v h = absurd (cc)

own_low : (g : Guard) (n x : ℤ) (role : ℕ) → g.low ≡ Some (low_end g) → holds g n (pos 0) role x ≡ true → (nat_eq role g.role ≡ true) × (at (low_end g) n ≤ℤ x)
own_low g n x role low_is h =
    let both = five_low (nat_eq role g.role) (is_at_least x g.low n (pos 0)) (is_at_most x g.high n (pos 0)) (is_from_on n g.from) (is_up_to n g.to) h in
    let test : int_le (at (low_end g) n) x ≡ true = subst (λ o. is_at_least x o n (pos 0) ≡ true) low_is both.1 in
    (both.0, omega (arith, ints))

first_low : (d : Division) (P : Lin → Type 0) (a : List Guard) (n x : ℤ) (role : ℕ) → All (IsAligned d) a → Each P (own_ends role a) → hold a n (pos 0) role x ≡ true → IsBelow P n x
first_low d P [] n x role aligned each h = absurd (cc)
first_low d P (g ∷ gs) n x role aligned each h = by_role (nat_eq role g.role) refl each (first_low d P gs n x role (All-tail (IsAligned d) g gs aligned)) (or_cases (holds g n (pos 0) role x) (hold gs n (pos 0) role x) h) where
  own : IsAligned d g
  own = All-head (IsAligned d) g gs aligned

  by_role : (t : Bool) → nat_eq role g.role ≡ t → Each P (if t then (low_end g ∷ high_end g ∷ own_ends role gs) else own_ends role gs) → (Each P (own_ends role gs) → hold gs n (pos 0) role x ≡ true → IsBelow P n x) → (holds g n (pos 0) role x ≡ true) ⊎ (hold gs n (pos 0) role x ≡ true) → IsBelow P n x
  by_role true e ps more (inl here) = record { e = low_end g; has = ps.0; le = (own_low g n x role own.bounded.low_is here).1 }
  by_role true e ps more (inr there) = more ps.1.1 there
  by_role false e ps more (inl here) = let same : nat_eq role g.role ≡ true = (own_low g n x role own.bounded.low_is here).0 in absurd (cc)
  by_role false e ps more (inr there) = more ps there

pub record IsAtEnd (P : Lin → Type 0) (wanted : Wanted) (a b : List Guard) (n : ℤ) (role : ℕ) (x : ℤ) : Type 0 where
  pub e : Lin
  pub has : P e
  pub le : at e n ≤ℤ x
  pub there : is_wanted wanted a b n role (at e n) ≡ true

pub wanted_first : (wanted : Wanted) (a b : List Guard) (n : ℤ) (role : ℕ) (x : ℤ) → is_wanted wanted a b n role x ≡ true → hold a n (pos 0) role x ≡ true
wanted_first Both a b n role x h = (and_parts (hold a n (pos 0) role x) (hold b n (pos 0) role x) h).0
wanted_first FirstAlone a b n role x h = (and_parts (hold a n (pos 0) role x) (not (hold b n (pos 0) role x)) h).0

pub wanted_same : (wanted : Wanted) (a b : List Guard) (n m : ℤ) (role : ℕ) (x y : ℤ) → hold a n (pos 0) role x ≡ hold a m (pos 0) role y → hold b n (pos 0) role x ≡ hold b m (pos 0) role y → is_wanted wanted a b n role x ≡ is_wanted wanted a b m role y
wanted_same Both a b n m role x y p q = ap₂ (λ u v. u && v) p q
wanted_same FirstAlone a b n m role x y p q = ap₂ (λ u v. u && not v) p q

-- where the region has x, it has an end of its guards, at x or before
pub at_end : (d : Division) (P : Lin → Type 0) (wanted : Wanted) (a b : List Guard) (n : ℤ) (role : ℕ) (x : ℤ) → All (IsAligned d) a → All (IsAligned d) b → Each P (own_ends role a) → Each P (own_ends role b) → is_wanted wanted a b n role x ≡ true → IsAtEnd P wanted a b n role x
at_end d P wanted a b n role x a_aligned b_aligned a_each b_each h =
    let low = first_low d P a n x role a_aligned a_each (wanted_first wanted a b n role x h) in
    let t = top P n x (own_ends role a ++ own_ends role b) low.e low.has low.le (each_append P (own_ends role a) (own_ends role b) a_each b_each) in
    let v = at t.e n in
    let in_a : hold a n (pos 0) role v ≡ hold a n (pos 0) role x = all_settle d a n v x role a_aligned t.le (each_left (λ f. at f n ≤ℤ x → at f n ≤ℤ v) (own_ends role a) (own_ends role b) t.most) in
    let in_b : hold b n (pos 0) role v ≡ hold b n (pos 0) role x = all_settle d b n v x role b_aligned t.le (each_right (λ f. at f n ≤ℤ x → at f n ≤ℤ v) (own_ends role a) (own_ends role b) t.most) in
    record { e = t.e; has = t.has; le = t.le; there = wanted_same wanted a b n n role v x in_a in_b ∙ h }

-- the ends of aligned guards are cuts
pub ends_in : (d : Division) (role : ℕ) (gs : List Guard) → All (IsAligned d) gs → Each (λ e. Contains d.cuts e) (own_ends role gs)
ends_in d role [] aligned = tt
ends_in d role (g ∷ gs) aligned = by_role (nat_eq role g.role) (ends_in d role gs (All-tail (IsAligned d) g gs aligned)) where
  own : IsAligned d g
  own = All-head (IsAligned d) g gs aligned

  by_role : (t : Bool) → Each (λ e. Contains d.cuts e) (own_ends role gs) → Each (λ e. Contains d.cuts e) (if t then (low_end g ∷ high_end g ∷ own_ends role gs) else own_ends role gs)
  by_role true rest = (own.low_in, (own.high_in, rest))
  by_role false rest = rest

-- THE LEMMA: what a region has at some N of a stretch, it has at the first N, for the same role
pub record IsThere (wanted : Wanted) (a b : List Guard) (n : ℤ) (role : ℕ) : Type 0 where
  pub index : ℤ
  pub there : is_wanted wanted a b n role index ≡ true

pub first_decides : (d : Division) (wanted : Wanted) (a b : List Guard) (first n : ℤ) (role : ℕ) (x : ℤ) → IsDivision d → IsStretch d first n → All (IsAligned d) a → All (IsAligned d) b → is_wanted wanted a b n role x ≡ true → IsThere wanted a b first role
first_decides d wanted a b first n role x divided s a_aligned b_aligned h =
    let e = at_end d (λ e. Contains d.cuts e) wanted a b n role x a_aligned b_aligned (ends_in d role a a_aligned) (ends_in d role b b_aligned) h in
    let same = wanted_same wanted a b first n role (at e.e first) (at e.e n) (same_guards d first n a role e.e divided s a_aligned e.has) (same_guards d first n b role e.e divided s b_aligned e.has) in
    record { index = at e.e first; there = same ∙ e.there }
