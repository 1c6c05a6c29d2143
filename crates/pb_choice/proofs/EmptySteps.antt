-- Numbers that are tried.
use Rattle.std.proofs.Common.{◌≡◌, ◌<◌, ◌≤◌, ◌+◌, ◌⊎◌, inl, inr, ℕ, zero, suc, ℤ, pos, negsuc, ◌+ℤ◌, ◌-ℤ◌, ◌≤ℤ◌, Bool, true, false, not, ◌&&◌, ◌||◌, int_le, int_lt, if◌then◌else◌, Option, Some, None, List, [], ◌∷◌, drop, get_or, length, refl, sym, ap, ap₂, ◌∙◌, subst, drop_of_length-le, arith}
use Rattle.std.specs.Prelude.{MatchOption}
use Rattle.std.specs.List.{list_any}
use Rattle.std.specs.Ordering.{int_eq}
use Rattle.std.proofs.lemmas.Bool.{and_parts, and_from, or_cases, or_left, or_right, or_parts, cases_Bool, false≢true, true≢false, not-true}
use Rattle.std.proofs.lemmas.Int.{ints}
use Rattle.std.proofs.lemmas.List.{at_drop_more}
use Rattle.pb_affine.specs.declared.lin.Base.{Base}
use Rattle.pb_affine.specs.declared.lin.Base.TheVariants.{Fixed, Param, Var}
use Rattle.pb_affine.specs.declared.range.NRange.{NRange}
use Rattle.pb_affine.specs.Values.{base_value, is_up_to}
use Rattle.pb_part_areas.specs.declared.area.Area.{Area}
use Rattle.pb_part_areas.specs.Areas.{at, is_before}
use Rattle.pb_choice.specs.Empties.{is_open, any_open, is_within, gap_of, is_until, is_end, reached, sooner, IsEmptyAt, IsEmptyIf, Tried, TriedIf, TriedEnds, IsFirstEmpty, IsNeverEmpty}

le_sooner : (b n c : ℤ) → int_le b c ≡ true → int_le (if int_lt n b then n else b) c ≡ true
le_sooner b n c h = elim (cases_Bool (int_lt n b)) [
  | inl y ↦ subst (λ t. int_le (if t then n else b) c ≡ true) (sym y) (less b n c h y)
  | inr z ↦ subst (λ t. int_le (if t then n else b) c ≡ true) (sym z) h
] where
  less : (b n c : ℤ) → int_le b c ≡ true → int_lt n b ≡ true → int_le n c ≡ true
  less b n c h y = grind (arith, ints)

sooner_keeps : (best : Option ℤ) (n c : ℤ) → reached best c ≡ true → reached (sooner best n) c ≡ true
sooner_keeps None n c h = absurd (false≢true h)
sooner_keeps (Some b) n c h = le_sooner b n c h

self_le : (n : ℤ) → int_le n n ≡ true
self_le n = grind (arith, ints)

sooner_tries : (best : Option ℤ) (n : ℤ) → reached (sooner best n) n ≡ true
sooner_tries None n = self_le n
sooner_tries (Some b) n = elim (cases_Bool (int_lt n b)) [
  | inl y ↦ subst (λ t. int_le (if t then n else b) n ≡ true) (sym y) (self_le n)
  | inr z ↦ subst (λ t. int_le (if t then n else b) n ≡ true) (sym z) (above n b z)
] where
  above : (n b : ℤ) → int_lt n b ≡ false → int_le b n ≡ true
  above n b z = grind (arith, ints)

sooner_good : (range : NRange) (list : List Area) (best : Option ℤ) (n : ℤ) → IsEmptyAt range list n → IsEmptyIf range list best → IsEmptyIf range list (sooner best n)
sooner_good range list None n h k = h
sooner_good range list (Some b) n h k = elim (cases_Bool (int_lt n b)) [
  | inl y ↦ subst (λ t. IsEmptyAt range list (if t then n else b)) (sym y) h
  | inr z ↦ subst (λ t. IsEmptyAt range list (if t then n else b)) (sym z) k
]

to_empty : (range : NRange) (list : List Area) (n : ℤ) → is_within range n && not (any_open list n) ≡ true → IsEmptyAt range list n
to_empty range list n h = let p = and_parts (is_within range n) (not (any_open list n)) h in record { within = p.0; empty = not-true (any_open list n) p.1 }

from_empty : (range : NRange) (list : List Area) (n : ℤ) → IsEmptyAt range list n → is_within range n && not (any_open list n) ≡ true
from_empty range list n h = and_from (is_within range n) (not (any_open list n)) h.within (ap not h.empty)

pub tried_new : (range : NRange) (list : List Area) (n : ℤ) (best new : Option ℤ) (t : Bool) → t ≡ (is_within range n && not (any_open list n)) → t ≡ true → new ≡ sooner best n → Tried range list n best new
tried_new range list n best new t e y is = subst (λ o. Tried range list n best o) (sym is) (record {
  good = λ k. sooner_good range list best n (to_empty range list n (sym e ∙ y)) k;
  keeps = λ c h. sooner_keeps best n c h;
  tries = λ h. sooner_tries best n;
})

pub tried_old : (range : NRange) (list : List Area) (n : ℤ) (best : Option ℤ) (t : Bool) → t ≡ (is_within range n && not (any_open list n)) → t ≡ false → Tried range list n best best
tried_old range list n best t e z = record {
  good = λ k. k;
  keeps = λ c h. h;
  tries = λ h. absurd (true≢false (sym (from_empty range list n h) ∙ sym e ∙ z));
}

pub until_none : (range : NRange) (list : List Area) (until : Option ℕ) (best : Option ℤ) → until ≡ None → TriedIf range list until best best
until_none range list until best e = subst (λ u. TriedIf range list u best best) (sym e) (record { good = λ k. k; keeps = λ c h. h; tries = λ c h k. absurd (false≢true k) })

same_int : (a b : ℤ) → int_eq a b ≡ true → a ≡ b
same_int a b h = grind (arith, ints)

pub until_some : (range : NRange) (list : List Area) (until : Option ℕ) (b : ℕ) (best new : Option ℤ) → until ≡ Some b → Tried range list (pos b) best new → TriedIf range list until best new
until_some range list until b best new e t = subst (λ u. TriedIf range list u best new) (sym e) (record {
  good = t.good;
  keeps = t.keeps;
  tries = λ c h k. let same : c ≡ pos b = same_int c (pos b) k in subst (λ z. reached new z ≡ true) (sym same) (t.tries (subst (λ z. IsEmptyAt range list z) same h));
})

pub both_ends : (range : NRange) (list : List Area) (a : Area) (g : ℤ) (best mid new : Option ℤ) → g ≡ gap_of a → TriedIf range list a.until best mid → Tried range list g mid new → TriedEnds range list a best new
both_ends range list a g best mid new e s t = record {
  good = λ k. t.good (s.good k);
  keeps = λ c h. t.keeps c (s.keeps c h);
  tries = λ c h k.
      elim (or_cases (is_until c a.until) (int_eq c (gap_of a)) k) [
        | inl y ↦ t.keeps c (s.tries c h y)
        | inr z ↦ (let same : c ≡ g = same_int c (gap_of a) z ∙ sym e in subst (λ q. reached new q ≡ true) (sym same) (t.tries (subst (λ q. IsEmptyAt range list q) same h)))
      ];
}

-- ---- the loop over the areas

pub record TriedSoFar (range : NRange) (list : List Area) (i : ℕ) (best : Option ℤ) : Type 0 where
  pub good : IsEmptyIf range list best
  pub covers : (c : ℤ) → IsEmptyAt range list c → int_eq c (pos range.low) || list_any (is_end c) list ≡ true → reached best c || list_any (is_end c) (drop i list) ≡ true

start_bools : (r e l : Bool) → (e ≡ true → r ≡ true) → e || l ≡ true → r || l ≡ true
start_bools r true l f h = ap (λ z. z || l) (f refl)
start_bools r false true f h = or_right r true refl
start_bools r false false f h = absurd (false≢true h)

pub tries_start : (range : NRange) (list : List Area) (n : ℤ) (best : Option ℤ) → n ≡ pos range.low → Tried range list n None best → TriedSoFar range list 0 best
tries_start range list n best e t = record {
  good = t.good tt;
  covers = λ c h k. start_bools (reached best c) (int_eq c (pos range.low)) (list_any (is_end c) list)
      (λ y. let same : c ≡ n = same_int c (pos range.low) y ∙ sym e in subst (λ q. reached best q ≡ true) (sym same) (t.tries (subst (λ q. IsEmptyAt range list q) same h))) k;
}

step_bools : (r r1 e l : Bool) → (r ≡ true → r1 ≡ true) → (e ≡ true → r1 ≡ true) → r || (e || l) ≡ true → r1 || l ≡ true
step_bools true r1 e l f g h = ap (λ z. z || l) (f refl)
step_bools false r1 true l f g h = ap (λ z. z || l) (g refl)
step_bools false r1 false true f g h = or_right r1 true refl
step_bools false r1 false false f g h = absurd (false≢true h)

pub tries_step : (range : NRange) (list : List Area) (i : ℕ) (d : Area) (best next : Option ℤ) → i < length list → TriedEnds range list (get_or list i d) best next → TriedSoFar range list i best → TriedSoFar range list (i + 1) next
tries_step range list i d best next lt t s = record {
  good = t.good s.good;
  covers = λ c h k. step_bools (reached best c) (reached next c) (is_end c (get_or list i d)) (list_any (is_end c) (drop (i + 1) list)) (t.keeps c) (t.tries c h)
      (ap (λ z. reached best c || z) (sym (at_drop_more (λ l. list_any (is_end c) l) list i d lt)) ∙ s.covers c h k);
}

-- ---- an area that ends

no_step : (b : Base) (n : ℤ) → (base_value b n (pos 0) ≡ base_value b (n -ℤ pos 1) (pos 0)) ⊎ ((base_value b n (pos 0) ≡ n) × (base_value b (n -ℤ pos 1) (pos 0) ≡ n -ℤ pos 1))
no_step Fixed n = inl refl
no_step Param n = inr (refl, refl)
no_step Var n = inl refl

zero_base : (b : Base) (n : ℤ) → (base_value b n (pos 0) ≡ pos 0) ⊎ ((base_value b n (pos 0) ≡ n) × (base_value b (n -ℤ pos 1) (pos 0) ≡ n -ℤ pos 1))
zero_base Fixed n = inl refl
zero_base Param n = inr (refl, refl)
zero_base Var n = inl refl

before_step : (n : ℤ) (until : Option ℕ) → is_before (n -ℤ pos 1) until ≡ true → is_before n until ≡ false → is_until n until ≡ true
before_step n None h k = absurd (true≢false k)
before_step n (Some b) h k = last n (pos b) h k where
  last : (n b : ℤ) → int_lt (n -ℤ pos 1) b ≡ true → int_lt n b ≡ false → int_eq n b ≡ true
  last n b h k = grind (arith, ints)

from_step : (f n : ℤ) → int_le f (n -ℤ pos 1) ≡ true → int_le f n ≡ true
from_step f n h = grind (arith, ints)

narrow_step : (lo eo l0 l1 e0 e1 n : ℤ) →
    (l1 ≡ l0) ⊎ ((l1 ≡ n) × (l0 ≡ n -ℤ pos 1)) → (e1 ≡ e0) ⊎ ((e1 ≡ n) × (e0 ≡ n -ℤ pos 1)) → (e1 ≡ pos 0) ⊎ ((e1 ≡ n) × (e0 ≡ n -ℤ pos 1)) →
    int_lt (lo +ℤ l0) (eo +ℤ e0) ≡ true → int_lt (lo +ℤ l1) (eo +ℤ e1) ≡ false → int_eq n (eo -ℤ lo) ≡ true
narrow_step lo eo l0 l1 e0 e1 n (inl a) (inl b) z h k = absurd (true≢false (sym h ∙ sym (ap₂ (λ p q. int_lt (lo +ℤ p) (eo +ℤ q)) a b) ∙ k))
narrow_step lo eo l0 l1 e0 e1 n (inl a) (inr b) z h k = absurd (grows lo eo l0 l1 e0 e1 n a b.0 b.1 h k) where
  grows : (lo eo l0 l1 e0 e1 n : ℤ) → l1 ≡ l0 → e1 ≡ n → e0 ≡ n -ℤ pos 1 → int_lt (lo +ℤ l0) (eo +ℤ e0) ≡ true → int_lt (lo +ℤ l1) (eo +ℤ e1) ≡ false → ⊥
  grows lo eo l0 l1 e0 e1 n a b c h k = grind (arith, ints)
narrow_step lo eo l0 l1 e0 e1 n (inr a) (inr b) z h k = absurd (moves lo eo l0 l1 e0 e1 n a.0 a.1 b.0 b.1 h k) where
  moves : (lo eo l0 l1 e0 e1 n : ℤ) → l1 ≡ n → l0 ≡ n -ℤ pos 1 → e1 ≡ n → e0 ≡ n -ℤ pos 1 → int_lt (lo +ℤ l0) (eo +ℤ e0) ≡ true → int_lt (lo +ℤ l1) (eo +ℤ e1) ≡ false → ⊥
  moves lo eo l0 l1 e0 e1 n a b c d h k = grind (arith, ints)
narrow_step lo eo l0 l1 e0 e1 n (inr a) (inl b) (inl z) h k = meets lo eo l0 l1 e0 e1 n a.0 a.1 b z h k where
  meets : (lo eo l0 l1 e0 e1 n : ℤ) → l1 ≡ n → l0 ≡ n -ℤ pos 1 → e1 ≡ e0 → e1 ≡ pos 0 → int_lt (lo +ℤ l0) (eo +ℤ e0) ≡ true → int_lt (lo +ℤ l1) (eo +ℤ e1) ≡ false → int_eq n (eo -ℤ lo) ≡ true
  meets lo eo l0 l1 e0 e1 n a b c d h k = grind (arith, ints)
narrow_step lo eo l0 l1 e0 e1 n (inr a) (inl b) (inr z) h k = absurd (never e0 e1 n b z.0 z.1) where
  never : (e0 e1 n : ℤ) → e1 ≡ e0 → e1 ≡ n → e0 ≡ n -ℤ pos 1 → ⊥
  never e0 e1 n a b c = omega (arith, ints)

end_bools : (lt fr bf un gp : Bool) → (lt ≡ false → gp ≡ true) → fr ≡ true → (bf ≡ false → un ≡ true) → lt && fr && bf ≡ false → un || gp ≡ true
end_bools lt fr bf true gp f g h k = refl
end_bools false fr bf false gp f g h k = f refl
end_bools true fr true false gp f g h k = absurd (true≢false (sym g ∙ and_true fr k)) where
  and_true : (b : Bool) → b && true ≡ false → b ≡ false
  and_true true q = q
  and_true false q = q
end_bools true fr false false gp f g h k = absurd (false≢true (h refl))

area_ends : (a : Area) (n : ℤ) → is_open (n -ℤ pos 1) a ≡ true → is_open n a ≡ false → is_end n a ≡ true
area_ends a n h k =
    let p = and_parts (int_lt (at a.low (n -ℤ pos 1)) (at a.end (n -ℤ pos 1)) && int_le (pos a.from) (n -ℤ pos 1)) (is_before (n -ℤ pos 1) a.until) h in
    let q = and_parts (int_lt (at a.low (n -ℤ pos 1)) (at a.end (n -ℤ pos 1))) (int_le (pos a.from) (n -ℤ pos 1)) p.0 in
    end_bools (int_lt (at a.low n) (at a.end n)) (int_le (pos a.from) n) (is_before n a.until) (is_until n a.until) (int_eq n (gap_of a))
    (λ z. narrow_step a.low.off a.end.off (base_value a.low.base (n -ℤ pos 1) (pos 0)) (base_value a.low.base n (pos 0)) (base_value a.end.base (n -ℤ pos 1) (pos 0)) (base_value a.end.base n (pos 0)) n
    (no_step a.low.base n) (no_step a.end.base n) (zero_base a.end.base n) q.0 z)
    (from_step (pos a.from) n q.1) (λ z. before_step n a.until p.1 z) k

some_ends : (list : List Area) (n : ℤ) → any_open list (n -ℤ pos 1) ≡ true → any_open list n ≡ false → list_any (is_end n) list ≡ true
some_ends [] n h k = absurd (false≢true h)
some_ends (a ∷ list) n h k =
    let parts = or_parts (is_open n a) (any_open list n) k in
    elim (or_cases (is_open (n -ℤ pos 1) a) (any_open list (n -ℤ pos 1)) h) [
      | inl y ↦ or_left (is_end n a) (list_any (is_end n) list) (area_ends a n y parts.0)
      | inr z ↦ or_right (is_end n a) (list_any (is_end n) list) (some_ends list n z parts.1)
    ]

-- ---- all numbers

reach_on : (best : Option ℤ) (n : ℤ) → reached best (n -ℤ pos 1) ≡ true → reached best n ≡ true
reach_on None n h = absurd (false≢true h)
reach_on (Some b) n h = le_on b n h where
  le_on : (b n : ℤ) → int_le b (n -ℤ pos 1) ≡ true → int_le b n ≡ true
  le_on b n h = grind (arith, ints)

within_before : (range : NRange) (n : ℤ) → is_within range n ≡ true → int_le (pos range.low) (n -ℤ pos 1) ≡ true → is_within range (n -ℤ pos 1) ≡ true
within_before range n h k =
    let p = and_parts (int_le (pos range.low) n) (is_up_to n range.high) h in
    and_from (int_le (pos range.low) (n -ℤ pos 1)) (is_up_to (n -ℤ pos 1) range.high) k (lower range.high n p.1) where
      lower : (high : Option ℕ) (n : ℤ) → is_up_to n high ≡ true → is_up_to (n -ℤ pos 1) high ≡ true
      lower None n h = refl
      lower (Some b) n h = down (pos b) n h where
        down : (b n : ℤ) → int_le n b ≡ true → int_le (n -ℤ pos 1) b ≡ true
        down b n h = grind (arith, ints)

all_reached : (range : NRange) (list : List Area) (best : Option ℤ) → ((c : ℤ) → IsEmptyAt range list c → int_eq c (pos range.low) || list_any (is_end c) list ≡ true → reached best c ≡ true) →
    (k : ℕ) (c : ℤ) → c ≡ pos range.low +ℤ pos k → IsEmptyAt range list c → reached best c ≡ true
all_reached range list best covers zero c e h = covers c h (or_left (int_eq c (pos range.low)) (list_any (is_end c) list) (at_low c (pos range.low) e)) where
  at_low : (c l : ℤ) → c ≡ l +ℤ pos 0 → int_eq c l ≡ true
  at_low c l e = grind (arith, ints)
all_reached range list best covers (suc k) c e h =
    elim (cases_Bool (any_open list (c -ℤ pos 1))) [
      | inl y ↦ covers c h (or_right (int_eq c (pos range.low)) (list_any (is_end c) list) (some_ends list c y h.empty))
      | inr z ↦ reach_on best c (all_reached range list best covers k (c -ℤ pos 1) (one_less c (pos range.low) k e)
          (record { within = within_before range c h.within (still c (pos range.low) k e); empty = z }))
    ] where
      one_less : (c l : ℤ) (k : ℕ) → c ≡ l +ℤ pos (suc k) → c -ℤ pos 1 ≡ l +ℤ pos k
      one_less c l k e = omega (arith, ints)

      still : (c l : ℤ) (k : ℕ) → c ≡ l +ℤ pos (suc k) → int_le l (c -ℤ pos 1) ≡ true
      still c l k e = grind (arith, ints)

pub count_from_low : (l c : ℤ) → int_le l c ≡ true → (k : ℕ) × (c ≡ l +ℤ pos k)
count_from_low l c h = up (c -ℤ l) refl where
  up : (d : ℤ) → c -ℤ l ≡ d → (k : ℕ) × (c ≡ l +ℤ pos k)
  up (pos k) e = (k, sums c l (pos k) e) where
    sums : (c l d : ℤ) → c -ℤ l ≡ d → c ≡ l +ℤ d
    sums c l d e = omega (arith, ints)
  up (negsuc k) e = absurd (below c l k e h) where
    below : (c l : ℤ) (k : ℕ) → c -ℤ l ≡ negsuc k → int_le l c ≡ true → ⊥
    below c l k e h = grind (arith, ints)

done_bools : (r : Bool) → r || false ≡ true → r ≡ true
done_bools true h = refl
done_bools false h = h

answered : (range : NRange) (list : List Area) (best : Option ℤ) → IsEmptyIf range list best → ((c : ℤ) → IsEmptyAt range list c → reached best c ≡ true) →
    MatchOption best (IsNeverEmpty range list) (λ n. IsFirstEmpty range list n)
answered range list None good all = record { none = λ m h. false≢true (all m h) }
answered range list (Some n) good all = record { there = good; least = λ m h. to_le n m (all m h) } where
  to_le : (n m : ℤ) → int_le n m ≡ true → n ≤ℤ m
  to_le n m h = grind (arith, ints)

pub tries_done : (range : NRange) (list : List Area) (i : ℕ) (best : Option ℤ) → length list ≤ i → TriedSoFar range list i best → MatchOption best (IsNeverEmpty range list) (λ n. IsFirstEmpty range list n)
tries_done range list i best le s =
    answered range list best s.good (λ c h.
    let k = count_from_low (pos range.low) c (and_parts (int_le (pos range.low) c) (is_up_to c range.high) h.within).0 in
    all_reached range list best (λ d g q. done_bools (reached best d) (ap (λ l. reached best d || list_any (is_end d) l) (sym (drop_of_length-le list le)) ∙ s.covers d g q)) k.0 c k.1 h)
