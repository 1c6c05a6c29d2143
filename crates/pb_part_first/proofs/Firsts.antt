-- Where an area first holds, and the earlier of two answers.
use Rattle.std.proofs.Common.{◌≡◌, ◌<◌, ◌+◌, ℕ, ℤ, pos, ◌+ℤ◌, ◌-ℤ◌, ◌≤ℤ◌, ◌<ℤ◌, Bool, true, false, ◌&&◌, ◌||◌, nat_eq, int_lt, int_le, if◌then◌else◌, sym, ◌∙◌, subst, arith, ◌⊎◌, inl, inr, Option, Some, None, refl, List, take, length, get_or}
use Rattle.std.proofs.lemmas.Int.{ints}
use Rattle.std.proofs.lemmas.Bool.Decides.{nat_tests}
use Rattle.std.proofs.lemmas.List.{take_more}
use Rattle.std.proofs.lemmas.Bool.{or_right, or_left, or_cases}
use Rattle.pb_affine.specs.declared.range.NRange.{NRange}
use Rattle.pb_affine.specs.Values.{is_up_to}
use Rattle.pb_cases.specs.declared.bad.Bad.{Bad}
use Rattle.pb_cases.specs.Regions.{is_before as before_rank, IsFirst, IsNowhere}
use Rattle.pb_cases.specs.Roles.{is_earlier}
use Rattle.pb_part_areas.specs.declared.area.Area.{Area}
use Rattle.pb_part_areas.specs.Areas.{has, have, at, is_param, is_before}
use Rattle.pb_part_areas.specs.Joins.{blank}
use Rattle.pb_part_first.specs.First.{earlier, IsBest, IsEarliest}
use Rattle.pb_part_areas.proofs.Meets.{at_still, at_grows, apart}
use Rattle.pb_part_areas.proofs.Lists.{have_pushed}

pub never : false ≡ true → ⊥
never e = cc

-- ---- what holds where an area holds

has_role : (p q r f u : Bool) → p && q && r && f && u ≡ true → p ≡ true
has_role p q r f u h = grind (arith, nat_tests)

index_low : (p q r f u : Bool) → p && q && r && f && u ≡ true → q ≡ true
index_low p q r f u h = grind (arith, nat_tests)

index_high : (p q r f u : Bool) → p && q && r && f && u ≡ true → r ≡ true
index_high p q r f u h = grind (arith, nat_tests)

from_on : (p q r f u : Bool) → p && q && r && f && u ≡ true → f ≡ true
from_on p q r f u h = grind (arith, nat_tests)

before_end : (p q r f u : Bool) → p && q && r && f && u ≡ true → u ≡ true
before_end p q r f u h = grind (arith, nat_tests)

record IsHad (a : Area) (n : ℤ) (role : ℕ) (x : ℤ) : Type 0 where
  role_is : nat_eq role a.role ≡ true
  low : at a.low n ≤ℤ x
  end : x <ℤ at a.end n
  from : pos a.from ≤ℤ n
  until : is_before n a.until ≡ true

le_is : (a b : ℤ) → int_le a b ≡ true → a ≤ℤ b
le_is a b h = grind (arith, ints)

lt_is : (a b : ℤ) → int_lt a b ≡ true → a <ℤ b
lt_is a b h = grind (arith, ints)

had : (a : Area) (n : ℤ) (role : ℕ) (x : ℤ) → has a n role x ≡ true → IsHad a n role x
had a n role x h =
    let p : Bool = nat_eq role a.role in
    let q : Bool = int_le (at a.low n) x in
    let r : Bool = int_lt x (at a.end n) in
    let f : Bool = int_le (pos a.from) n in
    let u : Bool = is_before n a.until in
    record {
      role_is = has_role p q r f u h;
      low = le_is (at a.low n) x (index_low p q r f u h);
      end = lt_is x (at a.end n) (index_high p q r f u h);
      from = le_is (pos a.from) n (from_on p q r f u h);
      until = before_end p q r f u h;
    }

-- ---- the earliest N of one area

grown_least : (l e low end m x : ℤ) → low ≡ l → end ≡ e +ℤ m → low ≤ℤ x → x <ℤ end → ((l -ℤ e) +ℤ pos 1) ≤ℤ m
grown_least l e low end m x el ee h k = omega (arith, ints)

grown_there : (l e low end n : ℤ) → low ≡ l → end ≡ e +ℤ n → ((l -ℤ e) +ℤ pos 1) ≤ℤ n → (low +ℤ pos 1) ≤ℤ end
grown_there l e low end n el ee h = omega (arith, ints)

either_le : (n a b m : ℤ) → (n ≡ a) ⊎ (n ≡ b) → a ≤ℤ m → b ≤ℤ m → n ≤ℤ m
either_le n a b m (inl e) h k = omega (arith, ints)
either_le n a b m (inr e) h k = omega (arith, ints)

pub grown_earliest : (a : Area) (range : NRange) (from n : ℤ) → is_param a.low.base ≡ false → is_param a.end.base ≡ true →
    pos a.from ≤ℤ from → pos range.low ≤ℤ from → (from ≡ pos a.from) ⊎ (from ≡ pos range.low) →
    from ≤ℤ n → ((a.low.off -ℤ a.end.off) +ℤ pos 1) ≤ℤ n → (n ≡ from) ⊎ (n ≡ (a.low.off -ℤ a.end.off) +ℤ pos 1) → IsEarliest a range n
grown_earliest a range from n still grows af lf either fn tn which = record {
  low = omega (arith, ints, lf, fn);
  from = omega (arith, ints, af, fn);
  least = λ m role x within h.
      let k = had a m role x h in
      either_le n from ((a.low.off -ℤ a.end.off) +ℤ pos 1) m which (either_le from (pos a.from) (pos range.low) m either k.from within.low)
      (grown_least a.low.off a.end.off (at a.low m) (at a.end m) m x (at_still a.low m still) (at_grows a.end m grows) k.low k.end);
  there = λ m role x within h. grown_there a.low.off a.end.off (at a.low n) (at a.end n) n (at_still a.low n still) (at_grows a.end n grows) tn;
}

same_there : (l e low end low2 end2 x : ℤ) → low -ℤ l ≡ end -ℤ e → low2 -ℤ l ≡ end2 -ℤ e → low ≤ℤ x → x <ℤ end → (low2 +ℤ pos 1) ≤ℤ end2
same_there l e low end low2 end2 x a b h k = omega (arith, ints)

falls_there : (l e low end low2 end2 x m n : ℤ) → low ≡ l +ℤ m → end ≡ e → low2 ≡ l +ℤ n → end2 ≡ e → n ≤ℤ m → low ≤ℤ x → x <ℤ end → (low2 +ℤ pos 1) ≤ℤ end2
falls_there l e low end low2 end2 x m n a b c d le h k = omega (arith, ints)

there_case : (p q : Bool) (a : Area) (n m x : ℤ) → is_param a.low.base ≡ p → is_param a.end.base ≡ q → (p ≡ false → q ≡ true → ⊥) → n ≤ℤ m →
    at a.low m ≤ℤ x → x <ℤ at a.end m → (at a.low n +ℤ pos 1) ≤ℤ at a.end n
there_case true true a n m x ep eq rule le h k =
    same_there a.low.off a.end.off (at a.low m) (at a.end m) (at a.low n) (at a.end n) x (apart a.low a.end m (ep ∙ sym eq)) (apart a.low a.end n (ep ∙ sym eq)) h k
there_case true false a n m x ep eq rule le h k =
    falls_there a.low.off a.end.off (at a.low m) (at a.end m) (at a.low n) (at a.end n) x m n (at_grows a.low m ep) (at_still a.end m eq) (at_grows a.low n ep) (at_still a.end n eq) le h k
there_case false true a n m x ep eq rule le h k = absurd (rule refl refl)
there_case false false a n m x ep eq rule le h k =
    same_there a.low.off a.end.off (at a.low m) (at a.end m) (at a.low n) (at a.end n) x (apart a.low a.end m (ep ∙ sym eq)) (apart a.low a.end n (ep ∙ sym eq)) h k

pub still_earliest : (a : Area) (range : NRange) (n : ℤ) → (is_param a.low.base ≡ false → is_param a.end.base ≡ true → ⊥) →
    pos a.from ≤ℤ n → pos range.low ≤ℤ n → (n ≡ pos a.from) ⊎ (n ≡ pos range.low) → IsEarliest a range n
still_earliest a range n rule af ln either = record {
  low = ln;
  from = af;
  least = λ m role x within h. let k = had a m role x h in either_le n (pos a.from) (pos range.low) m either k.from within.low;
  there = λ m role x within h.
      let k = had a m role x h in
      there_case (is_param a.low.base) (is_param a.end.base) a n m x refl refl rule (either_le n (pos a.from) (pos range.low) m either k.from within.low) k.low k.end;
}

-- ---- one area

three : (a b c : Bool) → a && b && c ≡ true → (a ≡ true) × (b ≡ true) × (c ≡ true)
three true true true h = (refl, refl, refl)
three true true false h = absurd (never h)
three true false c h = absurd (never h)
three false b c h = absurd (never h)

five_true : (p q r f u : Bool) → p ≡ true → q ≡ true → r ≡ true → f ≡ true → u ≡ true → p && q && r && f && u ≡ true
five_true p q r f u a b c d e = grind (arith, nat_tests)

own_role : (r : ℕ) → nat_eq r r ≡ true
own_role r = grind (arith, nat_tests)

le_self : (x : ℤ) → int_le x x ≡ true
le_self x = grind (arith, ints)

is_le : (a b : ℤ) → a ≤ℤ b → int_le a b ≡ true
is_le a b h = grind (arith, ints)

not_before : (r s : ℕ) (x l : ℤ) → nat_eq r s ≡ true → l ≤ℤ x → before_rank r x s l ≡ false
not_before r s x l e h = grind (arith, ints, nat_tests)

pub one_found : (a : Area) (range : NRange) (n : ℤ) → IsEarliest a range n → int_lt (at a.low n) (at a.end n) && is_before n a.until && is_up_to n range.high ≡ true →
    IsFirst range (has a) n a.role (at a.low n)
one_found a range n e h =
    let t = three (int_lt (at a.low n) (at a.end n)) (is_before n a.until) (is_up_to n range.high) h in
    record {
      in_range = record { low = e.low; high = t.2 };
      there = five_true (nat_eq a.role a.role) (int_le (at a.low n) (at a.low n)) (int_lt (at a.low n) (at a.end n)) (int_le (pos a.from) n) (is_before n a.until)
          (own_role a.role) (le_self (at a.low n)) t.0 (is_le (pos a.from) n e.from) t.1;
      least_n = e.least;
      least_rank = λ r x k. let w = had a n r x k in not_before r a.role x (at a.low n) w.role_is w.low;
    }

sooner : (n m : ℤ) (until : Option ℕ) → n ≤ℤ m → is_before m until ≡ true → is_before n until ≡ true
sooner n m None le h = refl
sooner n m (Some t) le h = grind (arith, ints)

up_to_sooner : (n m : ℤ) (high : Option ℕ) → n ≤ℤ m → is_up_to m high ≡ true → is_up_to n high ≡ true
up_to_sooner n m None le h = refl
up_to_sooner n m (Some t) le h = grind (arith, ints)

less_by_one : (a b : ℤ) → (a +ℤ pos 1) ≤ℤ b → int_lt a b ≡ true
less_by_one a b h = grind (arith, ints)

three_true : (a b c : Bool) → a ≡ true → b ≡ true → c ≡ true → a && b && c ≡ true
three_true a b c ea eb ec = grind (arith, nat_tests)

pub one_missing : (a : Area) (range : NRange) (n : ℤ) → IsEarliest a range n → int_lt (at a.low n) (at a.end n) && is_before n a.until && is_up_to n range.high ≡ false →
    IsNowhere range (has a)
one_missing a range n e h = record {
  none = λ m r x within k.
      let w = had a m r x k in
      let le = e.least m r x within k in
      never (sym h ∙ three_true (int_lt (at a.low n) (at a.end n)) (is_before n a.until) (is_up_to n range.high)
      (less_by_one (at a.low n) (at a.end n) (e.there m r x within k)) (sooner n m a.until le w.until) (up_to_sooner n m range.high le within.high));
}

-- ---- the earlier of two answers

-- by N, then by rank
not_later : (m n : ℤ) (r s : ℕ) (x y : ℤ) → is_earlier m r x n s y ≡ true → m ≤ℤ n
not_later m n r s x y h = grind (arith, ints, nat_tests)

not_sooner : (m n : ℤ) (r s : ℕ) (x y : ℤ) → is_earlier m r x n s y ≡ false → n ≤ℤ m
not_sooner m n r s x y h = grind (arith, ints, nat_tests)

both_le : (a b : ℤ) → a ≤ℤ b → b ≤ℤ a → a ≡ b
both_le a b h k = omega (arith, ints)

later_rank : (c s t : ℕ) (n x y z : ℤ) → is_earlier n c x n s y ≡ true → before_rank t z s y ≡ false → before_rank t z c x ≡ false
later_rank c s t n x y z h k = grind (arith, ints, nat_tests)

later_rank_other : (c s t : ℕ) (n x y z : ℤ) → is_earlier n c x n s y ≡ false → before_rank t z c x ≡ false → before_rank t z s y ≡ false
later_rank_other c s t n x y z h k = grind (arith, ints, nat_tests)

module _ (range : NRange) (p q r : ℤ → ℕ → ℤ → Bool) (e : (n : ℤ) (role : ℕ) (x : ℤ) → r n role x ≡ p n role x || q n role x) where
  split : (n : ℤ) (role : ℕ) (x : ℤ) → r n role x ≡ true → (p n role x ≡ true) ⊎ (q n role x ≡ true)
  split n role x h = or_cases (p n role x) (q n role x) (sym (e n role x) ∙ h)

  by_case : {A : Type 0} {B C : Type 0} → B ⊎ C → (B → A) → (C → A) → A
  by_case (inl b) f g = f b
  by_case (inr c) f g = g c

  none_of_two : IsNowhere range p → IsNowhere range q → IsNowhere range r
  none_of_two np nq = record { none = λ n role x within h. by_case (split n role x h) (np.none n role x within) (nq.none n role x within) }

  first_alone : (n : ℤ) (role : ℕ) (x : ℤ) → IsFirst range p n role x → IsNowhere range q → IsFirst range r n role x
  first_alone n role x f nq = record {
    in_range = f.in_range;
    there = e n role x ∙ or_left (p n role x) (q n role x) f.there;
    least_n = λ m s y within h. by_case (split m s y h) (f.least_n m s y within) (λ k. absurd (nq.none m s y within k));
    least_rank = λ s y h. by_case (split n s y h) (f.least_rank s y) (λ k. absurd (nq.none n s y f.in_range k));
  }

  second_alone : (n : ℤ) (role : ℕ) (x : ℤ) → IsNowhere range p → IsFirst range q n role x → IsFirst range r n role x
  second_alone n role x np f = record {
    in_range = f.in_range;
    there = e n role x ∙ or_right (p n role x) (q n role x) f.there;
    least_n = λ m s y within h. by_case (split m s y h) (λ k. absurd (np.none m s y within k)) (f.least_n m s y within);
    least_rank = λ s y h. by_case (split n s y h) (λ k. absurd (np.none n s y f.in_range k)) (f.least_rank s y);
  }

  -- q's is earlier
  second_first : (a c : Bad) → IsFirst range p a.n a.role a.index → IsFirst range q c.n c.role c.index → is_earlier c.n c.role c.index a.n a.role a.index ≡ true → IsFirst range r c.n c.role c.index
  second_first a c fa fc h =
      let le : c.n ≤ℤ a.n = not_later c.n a.n c.role a.role c.index a.index h in
      record {
        in_range = fc.in_range;
        there = e c.n c.role c.index ∙ or_right (p c.n c.role c.index) (q c.n c.role c.index) fc.there;
        least_n = λ m s y within k. by_case (split m s y k) (λ w. let ge : a.n ≤ℤ m = fa.least_n m s y within w in omega (arith, ints, le, ge)) (fc.least_n m s y within);
        least_rank = λ s y k. by_case (split c.n s y k)
            (λ w. let same : c.n ≡ a.n = both_le c.n a.n le (fa.least_n c.n s y fc.in_range w) in
            later_rank c.role a.role s a.n c.index a.index y (subst (λ z. is_earlier z c.role c.index a.n a.role a.index ≡ true) same h)
            (fa.least_rank s y (subst (λ z. p z s y ≡ true) same w)))
            (fc.least_rank s y);
      }

  -- q's isn't earlier
  first_first : (a c : Bad) → IsFirst range p a.n a.role a.index → IsFirst range q c.n c.role c.index → is_earlier c.n c.role c.index a.n a.role a.index ≡ false → IsFirst range r a.n a.role a.index
  first_first a c fa fc h =
      let le : a.n ≤ℤ c.n = not_sooner c.n a.n c.role a.role c.index a.index h in
      record {
        in_range = fa.in_range;
        there = e a.n a.role a.index ∙ or_left (p a.n a.role a.index) (q a.n a.role a.index) fa.there;
        least_n = λ m s y within k. by_case (split m s y k) (fa.least_n m s y within) (λ w. let ge : c.n ≤ℤ m = fc.least_n m s y within w in omega (arith, ints, le, ge));
        least_rank = λ s y k. by_case (split a.n s y k)
            (fa.least_rank s y)
            (λ w. let same : c.n ≡ a.n = both_le c.n a.n (fc.least_n a.n s y fa.in_range w) le in
            later_rank_other c.role a.role s a.n c.index a.index y (subst (λ z. is_earlier z c.role c.index a.n a.role a.index ≡ false) same h)
            (fc.least_rank s y (subst (λ z. q z s y ≡ true) (sym same) w)));
      }

  chosen : (b : Bool) (a c : Bad) → is_earlier c.n c.role c.index a.n a.role a.index ≡ b → IsFirst range p a.n a.role a.index → IsFirst range q c.n c.role c.index →
      IsBest range r (if b then Some c else Some a)
  chosen true a c eb fa fc = second_first a c fa fc eb
  chosen false a c eb fa fc = first_first a c fa fc eb

  pub best_of_two : (a c : Option Bad) → IsBest range p a → IsBest range q c → IsBest range r (earlier a c)
  best_of_two None None np nq = none_of_two np nq
  best_of_two (Some a) None fa nq = first_alone a.n a.role a.index fa nq
  best_of_two None (Some c) np fc = second_alone c.n c.role c.index np fc
  best_of_two (Some a) (Some c) fa fc = chosen (is_earlier c.n c.role c.index a.n a.role a.index) a c refl fa fc

-- ---- along a list

pub have_more : (xs : List Area) (i : ℕ) → i < length xs → (n : ℤ) (role : ℕ) (x : ℤ) → have (take (i + 1) xs) n role x ≡ have (take i xs) n role x || has (get_or xs i blank) n role x
have_more xs i lt n role x = have_pushed (take i xs) (take (i + 1) xs) (get_or xs i blank) (take_more xs i blank lt) n role x

pub best_more : (range : NRange) (xs : List Area) (i : ℕ) (best found : Option Bad) → i < length xs →
    IsBest range (λ n role x. have (take i xs) n role x) best → IsBest range (has (get_or xs i blank)) found →
    IsBest range (λ n role x. have (take (i + 1) xs) n role x) (earlier best found)
best_more range xs i best found lt hb hf = best_of_two range (λ n role x. have (take i xs) n role x) (has (get_or xs i blank)) (λ n role x. have (take (i + 1) xs) n role x) (have_more xs i lt) best found hb hf
