-- How a rank is found.
use Rattle.std.proofs.Common.{◌≡◌, ◌<◌, ◌≤◌, ◌+◌, ℕ, ℤ, pos, ◌≤ℤ◌, int_le, nat_eq, Bool, true, false, ◌&&◌, ◌||◌, not, Option, Some, None, MatchOption, List, [], ◌∷◌, ◌++◌, drop, get_or, length, sym, ap, ◌∙◌, subst, drop_of_length-le, arith}
use Rattle.std.specs.Prelude.{option_to_list}
use Rattle.std.proofs.lemmas.Int.{ints}
use Rattle.std.proofs.lemmas.List.{at_drop_more}
use Rattle.std.proofs.lemmas.Bool.{and_parts, and_from, false≢true, or_left, or_right}
use Rattle.std.proofs.lemmas.Bool.Decides.{nat_tests}
use Rattle.pb_affine.specs.declared.range.NRange.{NRange}
use Rattle.pb_affine.specs.Values.{value}
use Rattle.pb_cases.specs.declared.bad.Bad.{Bad}
use Rattle.pb_cases.specs.Regions.{IsFirst, IsNowhere}
use Rattle.pb_part_areas.specs.declared.area.Area.{Area}
use Rattle.pb_part_areas.specs.Areas.{has, have}
use Rattle.pb_part_areas.specs.Joins.{blank}
use Rattle.pb_part_takers.specs.Ends.{IsMetArea}
use Rattle.pb_core_language.specs.declared.tree.CoreEnd.{CoreEnd}
use Rattle.pb_core_language.specs.declared.tree.Bounds.{Bounds}
use Rattle.pb_core_language.specs.Sound.{is_small}
use Rattle.pb_core_flat.specs.Meets.{is_met, is_passed}
use Rattle.pb_project_piece.specs.Ranked.{IsThere, late}
use Rattle.pb_project_piece.specs.Seen.{IsPart, IsAmong, Seen, IsSeen, is_soon, Found, IsFound}
use Rattle.pb_project_piece.specs.Comers.{comes_to, AreComers, IsSomeComer, IsComing}
use Rattle.pb_project_piece.specs.Segments.{AreOthers, is_left, IsSomeOther, IsLeft}
use Rattle.pb_project_piece.proofs.Ones.{from_zero}
use Rattle.pb_project_piece.proofs.Nears.{is_in}

-- ---- from what is known to what is found

late_from_zero : pos 0 ≤ℤ late
late_from_zero = omega (arith, ints)

pub found_there : (range : NRange) (whole areas : List Area) (test : ℤ → ℕ → ℤ → Bool) (t : Bool) → ((n : ℤ) (role : ℕ) (x : ℤ) → pos 0 ≤ℤ n → have areas n role x ≡ test n role x) →
    IsThere range whole areas t → IsFound range whole test t
found_there range whole areas test true same r = record {
  n = r.n;
  role = r.role;
  index = r.index;
  within = r.within;
  rank = r.rank;
  there = sym (same r.n r.role r.index (from_zero range r.n r.within)) ∙ r.there;
  soon = λ role x within rank is. r.least late role x within rank (same late role x late_from_zero ∙ is);
}
found_there range whole areas test false same none = λ n role x within rank. sym (same n role x (from_zero range n within)) ∙ none n role x within rank

pub found_seen : (range : NRange) (whole : List Area) (test : ℤ → ℕ → ℤ → Bool) → Seen range whole test → Found range whole test
found_seen range whole test s = record {
  n = s.n;
  role = s.role;
  index = s.index;
  within = s.within;
  rank = s.rank;
  there = s.there;
  soon = λ role x within rank is. s.few;
}

seen_yes : (range : NRange) (whole : List Area) (part : Option Area) (t : Bool) (test : ℤ → ℕ → ℤ → Bool) → IsSeen range whole part t → t ≡ true → IsAmong whole part test → Found range whole test
seen_yes range whole part t test seen is among =
    let z : IsSeen range whole part true = subst (IsSeen range whole part) is seen in
    found_seen range whole test (z test among)

pub coming_seen : (range : NRange) (whole : List Area) (over : Option Bounds) (fixed : List Area) (e : CoreEnd) (part : Option Area) (t : Bool) → IsSomeComer whole over fixed e part → IsSeen range whole part t → t ≡ true →
    IsComing range whole over fixed e true
coming_seen range whole over fixed e part t some seen is = record {
  is = λ small bounds. seen_yes range whole part t (λ n role x. comes_to over fixed e n role x) seen is (some.is small bounds);
}

pub coming_there : (range : NRange) (whole : List Area) (over : Option Bounds) (fixed : List Area) (e : CoreEnd) (areas : List Area) (t : Bool) → AreComers over fixed e areas → IsThere range whole areas t → IsComing range whole over fixed e t
coming_there range whole over fixed e areas t comers there = record {
  is = λ small bounds. found_there range whole areas (λ n role x. comes_to over fixed e n role x) t (λ n role x z. comers.is n role x z small bounds) there;
}

pub left_seen : (range : NRange) (whole : List Area) (over : Bounds) (k : ℕ) (c : ℤ) (less : List Area) (part : Option Area) (t : Bool) → IsSomeOther whole over k c less part → IsSeen range whole part t → t ≡ true →
    IsLeft range whole over k c less true
left_seen range whole over k c less part t some seen is = record {
  is = λ bounds small. seen_yes range whole part t (λ n role x. is_left over k c less n role x) seen is (some.is bounds small);
}

pub left_there : (range : NRange) (whole : List Area) (over : Bounds) (k : ℕ) (c : ℤ) (less areas : List Area) (t : Bool) → AreOthers over k c less areas → IsThere range whole areas t → IsLeft range whole over k c less t
left_there range whole over k c less areas t others there = record {
  is = λ bounds small. found_there range whole areas (λ n role x. is_left over k c less n role x) t (λ n role x z. others.is n role x z bounds small) there;
}

-- ---- an area that is seen

up_to : (n : ℤ) → int_le n late ≡ true → n ≤ℤ late
up_to n h = grind (arith, ints)

pub area_seen : (range : NRange) (whole list ranks : List Area) (a : Area) (t : Bool) (first : Option Bad) → ((n : ℤ) (role : ℕ) (x : ℤ) → have list n role x ≡ has a n role x) →
    ((n : ℤ) (role : ℕ) (x : ℤ) → have ranks n role x ≡ have list n role x && have whole n role x) →
    MatchOption first (IsNowhere range (have ranks)) (λ bad. IsFirst range (have ranks) bad.n bad.role bad.index) → t ≡ is_soon first → IsSeen range whole (Some a) t
area_seen range whole list ranks a false first one both found is = tt
area_seen range whole list ranks a true None one both found is = absurd (false≢true (sym is))
area_seen range whole list ranks a true (Some bad) one both found is = λ test among.
    let k = and_parts (have list bad.n bad.role bad.index) (have whole bad.n bad.role bad.index) (sym (both bad.n bad.role bad.index) ∙ found.there) in
    let within = is_in range bad.n found.in_range in
    record {
      n = bad.n;
      role = bad.role;
      index = bad.index;
      within = within;
      rank = k.1;
      there = among bad.n bad.role bad.index (from_zero range bad.n within) k.1 (sym (one bad.n bad.role bad.index) ∙ k.0);
      few = up_to bad.n (sym is);
    }

-- ---- parts of areas

have_last : (list : List Area) (a : Area) (n : ℤ) (role : ℕ) (x : ℤ) → has a n role x ≡ true → have (list ++ a ∷ []) n role x ≡ true
have_last [] a n role x h = or_left _ _ h
have_last (b ∷ list) a n role x h = or_right (has b n role x) _ (have_last list a n role x h)

-- the last area of a list
pub last_part : (list rest : List Area) (last : Option Area) (test : ℤ → ℕ → ℤ → Bool) → list ≡ rest ++ option_to_list last → ((n : ℤ) (role : ℕ) (x : ℤ) → have list n role x ≡ test n role x) → IsPart last test
last_part list rest None test e is = tt
last_part list rest (Some a) test e is = λ n role x h. sym (is n role x) ∙ ap (λ l. have l n role x) e ∙ have_last rest a n role x h

pub beside_last : (list all other rest : List Area) (a b : Area) (last : Option Area) → list ≡ rest ++ option_to_list last → ((n : ℤ) (role : ℕ) (x : ℤ) → have all n role x ≡ has a n role x) →
    ((n : ℤ) (role : ℕ) (x : ℤ) → have other n role x ≡ has b n role x) → ((n : ℤ) (role : ℕ) (x : ℤ) → have list n role x ≡ have all n role x && not (have other n role x)) →
    IsPart last (λ n role x. has a n role x && not (has b n role x))
beside_last list all other rest a b last e of_a of_b is =
    last_part list rest last (λ n role x. has a n role x && not (has b n role x)) e
    (λ n role x. is n role x ∙ ap (λ z. z && not (have other n role x)) (of_a n role x) ∙ ap (λ z. has a n role x && not z) (of_b n role x))

pub shared_last : (list all other rest : List Area) (a b : Area) (last : Option Area) → list ≡ rest ++ option_to_list last → ((n : ℤ) (role : ℕ) (x : ℤ) → have all n role x ≡ has a n role x) →
    ((n : ℤ) (role : ℕ) (x : ℤ) → have other n role x ≡ has b n role x) → ((n : ℤ) (role : ℕ) (x : ℤ) → have list n role x ≡ have all n role x && have other n role x) →
    IsPart last (λ n role x. has a n role x && has b n role x)
shared_last list all other rest a b last e of_a of_b is =
    last_part list rest last (λ n role x. has a n role x && has b n role x) e
    (λ n role x. is n role x ∙ ap (λ z. z && have other n role x) (of_a n role x) ∙ ap (λ z. has a n role x && z) (of_b n role x))

-- ---- of lists

drop_is : (list : List Area) (i : ℕ) → i < length list → drop i list ≡ get_or list i blank ∷ drop (i + 1) list
drop_is list i lt = at_drop_more (λ l. l) list i blank lt

-- what is left of an area without the first i of a list
pub record LeftSoFar (a : Area) (less : List Area) (i : ℕ) (left : Area) : Type 0 where
  pub is : (n : ℤ) (role : ℕ) (x : ℤ) → has left n role x && not (have (drop i less) n role x) ≡ true → has a n role x && not (have less n role x) ≡ true

pub left_start : (a : Area) (less : List Area) → LeftSoFar a less 0 a
left_start a less = record { is = λ n role x h. h }

left_bools : (l b d : Bool) → l && not b ≡ true → not d ≡ true → l && not (b || d) ≡ true
left_bools l b d h k = grind (arith, nat_tests, h, k)

pub left_step : (a left next : Area) (less : List Area) (i : ℕ) (part : Option Area) → i < length less → IsPart part (λ n role x. has left n role x && not (has (get_or less i blank) n role x)) → part ≡ Some next → LeftSoFar a less i left →
    LeftSoFar a less (i + 1) next
left_step a left next less i part lt beside is so_far =
    let some : IsPart (Some next) (λ n role x. has left n role x && not (has (get_or less i blank) n role x)) = subst (λ o. IsPart o (λ n role x. has left n role x && not (has (get_or less i blank) n role x))) is beside in
    record {
      is = λ n role x h.
          let k = and_parts (has next n role x) (not (have (drop (i + 1) less) n role x)) h in
          so_far.is n role x (ap (λ l. has left n role x && not (have l n role x)) (drop_is less i lt)
          ∙ left_bools (has left n role x) (has (get_or less i blank) n role x) (have (drop (i + 1) less) n role x) (some n role x k.0) k.1);
    }

pub left_done : (a left : Area) (less : List Area) (i : ℕ) → length less ≤ i → LeftSoFar a less i left → IsPart (Some left) (λ n role x. has a n role x && not (have less n role x))
left_done a left less i le so_far = λ n role x h.
    so_far.is n role x (and_from _ _ h (ap (λ l. not (have l n role x)) (drop_of_length-le less le)))

have_at : (list : List Area) (i : ℕ) → i < length list → (n : ℤ) (role : ℕ) (x : ℤ) → has (get_or list i blank) n role x ≡ true → have (drop i list) n role x ≡ true
have_at list i lt n role x h = ap (λ l. have l n role x) (drop_is list i lt) ∙ or_left _ _ h

-- what stands from here on is in the list
pub record Behind (list : List Area) (i : ℕ) : Type 0 where
  pub is : (n : ℤ) (role : ℕ) (x : ℤ) → have (drop i list) n role x ≡ true → have list n role x ≡ true

pub behind_start : (list : List Area) → Behind list 0
behind_start list = record { is = λ n role x h. h }

pub behind_step : (list : List Area) (i : ℕ) → i < length list → Behind list i → Behind list (i + 1)
behind_step list i lt so_far = record {
  is = λ n role x h. so_far.is n role x (ap (λ l. have l n role x) (drop_is list i lt) ∙ or_right (has (get_or list i blank) n role x) _ h);
}

pub shared_found : (list : List Area) (i : ℕ) (a : Area) (part : Option Area) → i < length list → Behind list i → IsPart part (λ n role x. has (get_or list i blank) n role x && has a n role x) →
    IsPart part (λ n role x. have list n role x && has a n role x)
shared_found list i a None lt so_far part = tt
shared_found list i a (Some p) lt so_far part = λ n role x h.
    let k = and_parts (has (get_or list i blank) n role x) (has a n role x) (part n role x h) in
    and_from _ _ (so_far.is n role x (have_at list i lt n role x k.0)) k.1

-- ---- some of those who come, and some that are left

pub some_comer_is : (whole fixed : List Area) (over : Bounds) (e : CoreEnd) (met near : Area) (part : Option Area) → IsMetArea over e met → ((n : ℤ) (role : ℕ) (x : ℤ) → have whole n role x ≡ true → has near n role x ≡ has met n role x) →
    IsPart part (λ n role x. have fixed n role x && has near n role x) → IsSomeComer whole (Some over) fixed e part
some_comer_is whole fixed over e met near None is same part = record { is = λ small bounds. tt }
some_comer_is whole fixed over e met near (Some a) is same part = record {
  is = λ small bounds n role x z rank h.
      let k = and_parts (have fixed n role x) (has near n role x) (part n role x h) in
      and_from _ _ k.0 (sym (is.is n role x z bounds.0 bounds.1 small) ∙ sym (same n role x rank) ∙ k.1);
}

pub some_other_is : (whole less : List Area) (over : Bounds) (e : CoreEnd) (k : ℕ) (c : ℤ) (met near : Area) (part : Option Area) →
    ((lo hi n : ℤ) (role : ℕ) (x : ℤ) → is_met e lo hi n role x ≡ nat_eq k role && is_passed c lo hi x) → e.at.off ≡ c →
    IsMetArea over e met → ((n : ℤ) (role : ℕ) (x : ℤ) → have whole n role x ≡ true → has near n role x ≡ has met n role x) →
    IsPart part (λ n role x. has near n role x && not (have less n role x)) → IsSomeOther whole over k c less part
some_other_is whole less over e k c met near None meets off is same part = record { is = λ bounds small. tt }
some_other_is whole less over e k c met near (Some a) meets off is same part = record {
  is = λ bounds small n role x z rank h.
      let y = and_parts (has near n role x) (not (have less n role x)) (part n role x h) in
      and_from _ _ (sym (meets (value over.low n (pos 0)) (value over.high n (pos 0)) n role x) ∙ sym (is.is n role x z bounds.0 bounds.1 (ap is_small off ∙ small)) ∙ sym (same n role x rank) ∙ y.0) y.1;
}
