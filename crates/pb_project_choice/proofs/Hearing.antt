-- The ranks that hear first from a source.
use Rattle.std.proofs.Common.{◌≡◌, ◌<◌, ◌≤◌, ◌+◌, ◌≤ℤ◌, inl, inr, ◌⊎◌, ℕ, zero, suc, ℤ, pos, negsuc, Bool, true, false, not, ◌&&◌, ◌||◌, nat_eq, int_le, List, [], ◌∷◌, ◌++◌, drop, get_or, length, refl, sym, ap, ◌∙◌, subst, arith, drop_of_length-le}
use Rattle.std.specs.List.{All, list_any}
use Rattle.std.specs.Ordering.{int_eq}
use Rattle.std.proofs.lemmas.List.{drop_more}
use Rattle.std.proofs.lemmas.List.Elements.{All-nil}
use Rattle.std.proofs.lemmas.Bool.{and_parts, and_from, or_cases, or_left, or_right, true≢false, false≢true, eqb-true, eq-eqb}
use Rattle.std.proofs.lemmas.Bool.Decides.{nat_tests}
use Rattle.std.proofs.lemmas.Int.{ints}
use Rattle.std.proofs.Math.Bool.{or-false, or_assoc}
use Rattle.pb_affine.specs.declared.lin.Base.{Base}
use Rattle.pb_affine.specs.declared.lin.Base.TheVariants.{Fixed, Param, Var}
use Rattle.pb_affine.specs.declared.lin.Lin.{Lin}
use Rattle.pb_affine.specs.declared.range.NRange.{NRange}
use Rattle.pb_part_areas.specs.declared.area.Area.{Area}
use Rattle.pb_part_areas.specs.Areas.{has, have}
use Rattle.pb_part_areas.specs.Fits.{Fits}
use Rattle.pb_cases.specs.Breakpoints.{IsCut}
use Rattle.pb_choice_entries.specs.Clashes.{same_base, agrees, IsAgreement}
use Rattle.pb_core_language.specs.declared.tree.CoreEnd.{CoreEnd}
use Rattle.pb_core_language.specs.Sound.{is_small}
use Rattle.pb_part_firsts.specs.declared.firsts.Entry.{Entry}
use Rattle.pb_part_firsts.specs.declared.firsts.Kind.{Kind}
use Rattle.pb_part_firsts.specs.declared.firsts.Kind.TheVariants.{Receive, Other, Again}
use Rattle.pb_part_firsts.specs.declared.firsts.Source.{Source}
use Rattle.pb_part_firsts.specs.Firsts.{is_small_kind, are_small}
use Rattle.pb_part_visits.specs.Visits.{is_small_off}
use Rattle.pb_part_firsts.specs.Fitting.{EntriesFit}
use Rattle.pb_part_takers.specs.Ends.{IsEndArea}
use Rattle.pb_core_flat.specs.Seated.{is_at}
use Rattle.pb_project_choice.specs.Heard.{IsCutOut, IsOther, AreOthers, AreStrangers, AddsHeard, IsHeard}
use Rattle.pb_project_choice.specs.Sayable.{AreSayable, IsSayable}
use Rattle.pb_project_choice.specs.Sources.{same_source, is_from, is_listed, are_once, hears, source_at}
use Rattle.pb_project_choice.proofs.Plain.{both_fit}
use Rattle.pb_project_choice.proofs.Telling.{fit_at}

-- ---- sources that are the same

same_int : (x y : ℤ) → int_eq x y ≡ true → x ≡ y
same_int x y h = grind (arith, ints)

base_is : (a b : Base) → same_base a b ≡ true → a ≡ b
base_is Fixed Fixed h = refl
base_is Fixed Param h = absurd (false≢true h)
base_is Fixed Var h = absurd (false≢true h)
base_is Param Fixed h = absurd (false≢true h)
base_is Param Param h = refl
base_is Param Var h = absurd (false≢true h)
base_is Var Fixed h = absurd (false≢true h)
base_is Var Param h = absurd (false≢true h)
base_is Var Var h = refl

pub source_is : (a b : Source) → same_source a b ≡ true → a ≡ b
source_is a b h =
    let outer = and_parts (nat_eq a.role b.role && same_base a.at.base b.at.base) (int_eq a.at.off b.at.off) h in
    let inner = and_parts (nat_eq a.role b.role) (same_base a.at.base b.at.base) outer.0 in
    let role : a.role ≡ b.role = eqb-true a.role b.role inner.0 in
    let base : a.at.base ≡ b.at.base = base_is a.at.base b.at.base inner.1 in
    let off : a.at.off ≡ b.at.off = same_int a.at.off b.at.off outer.1 in
    ap (λ (z : ℕ). record { role = z; at = record { base = a.at.base; off = a.at.off } }) role
    ∙ ap (λ (z : Base). record { role = b.role; at = record { base = z; off = a.at.off } }) base
    ∙ ap (λ (z : ℤ). record { role = b.role; at = record { base = b.at.base; off = z } }) off

base_self : (a : Base) → same_base a a ≡ true
base_self Fixed = refl
base_self Param = refl
base_self Var = refl

int_self : (x : ℤ) → int_eq x x ≡ true
int_self x = grind (arith, ints)

pub source_self : (a : Source) → same_source a a ≡ true
source_self a = and_from (nat_eq a.role a.role && same_base a.at.base a.at.base) (int_eq a.at.off a.at.off) (and_from (nat_eq a.role a.role) (same_base a.at.base a.at.base) (eq-eqb a.role a.role refl) (base_self a.at.base)) (int_self a.at.off)

-- ---- what is cut out

taken : (v l b : Bool) → v ≡ l && not (b || false) → v ≡ true → l ≡ true
taken v l b e h = grind (arith, nat_tests)

left_over : (v l b : Bool) → v ≡ l && not (b || false) → l ≡ true → b ≡ false → v ≡ true
left_over v l b e h k = grind (arith, nat_tests)

pub cut_out : (list : List Area) (a : Area) (new : List Area) → IsSayable a → ((n : ℤ) (role : ℕ) (x : ℤ) → have new n role x ≡ have list n role x && not (have (a ∷ []) n role x)) →
    ((range : NRange) (cuts : List Lin) → All (Fits range cuts) list → All (Fits range cuts) (a ∷ []) → All (Fits range cuts) new) → IsCutOut list a new
cut_out list a new say is fits = record {
  only = λ n role x h. taken (have new n role x) (have list n role x) (has a n role x) (is n role x) h;
  rest = λ n role x h k. left_over (have new n role x) (have list n role x) (has a n role x) (is n role x) h k;
  sayable = λ range h.
      let both = both_fit range list (a ∷ []) h (say.is range) in
      record { cuts = both.cuts; are_cuts = both.are_cuts; fit = fits range both.cuts both.first both.second };
}

pub not_cut : (list : List Area) (a : Area) → IsCutOut list a list
not_cut list a = record { only = λ n role x h. h; rest = λ n role x h k. h; sayable = λ range h. h }

small_bools : (x : ℤ) → int_le (negsuc 99999) x && int_le x (pos 100000) ≡ true → int_le (negsuc 999999) x && int_le x (pos 1000000) ≡ true
small_bools x h = grind (arith, ints, nat_tests)

pub are_others : (chooser : CoreEnd) (a : Area) (s : Source) (all left new : List Area) (same end : Area) → ((n : ℤ) (role : ℕ) (x : ℤ) → have all n role x ≡ has a n role x) →
    ((range : NRange) (cuts : List Lin) → Fits range cuts a → All (Fits range cuts) all) → IsAgreement a s (source_at chooser) same → IsEndArea chooser end →
    IsCutOut all same left → IsCutOut left end new → AreOthers chooser a s new
are_others chooser a s all left new same end is fits met ends one two = record {
  only = λ n role x h. sym (is n role x) ∙ one.only n role x (two.only n role x h);
  rest = λ n role x other small h.
      two.rest n role x
      (one.rest n role x (is n role x ∙ h) (met.is n role x small (small_bools chooser.at.off other.small) other.near h ∙ other.apart))
      (ends.is n role x other.near other.small ∙ other.else_where);
  sayable = λ range cuts h f. two.sayable range (one.sayable range (record { cuts = cuts; are_cuts = h; fit = fits range cuts f }));
}

-- ---- an entry

source_kind : (s : Source) (k : Kind) → is_from s k ≡ true → is_small_kind k ≡ true → is_small_off s.at.off ≡ true
source_kind s (Receive t l) h k = subst (λ z. is_small_off z.at.off ≡ true) (sym (source_is s t h)) k
source_kind s Other h k = absurd (false≢true h)
source_kind s Again h k = absurd (false≢true h)

either : (v o w : Bool) → v ≡ o || w → v ≡ true → (o ≡ true) ⊎ (w ≡ true)
either v true w e h = inl refl
either v false w e h = inr (sym e ∙ h)

joined_left : (v o w : Bool) → v ≡ o || w → o ≡ true → v ≡ true
joined_left v o w e h = e ∙ or_left o w h

joined_right : (v o w : Bool) → v ≡ o || w → w ≡ true → v ≡ true
joined_right v o w e h = e ∙ or_right o w h

pub adds_heard : (chooser : CoreEnd) (s : Source) (e : Entry) (old more new : List Area) → is_from s e.kind ≡ true → AreOthers chooser e.area s more →
    ((n : ℤ) (role : ℕ) (x : ℤ) → have new n role x ≡ have old n role x || have more n role x) →
    ((range : NRange) (cuts : List Lin) → All (Fits range cuts) old → All (Fits range cuts) more → All (Fits range cuts) new) → AddsHeard chooser s e old new
adds_heard chooser s e old more new from others is fits = record {
  only = λ n role x h. elim (either (have new n role x) (have old n role x) (have more n role x) (is n role x) h) [
    | inl y ↦ inl y
    | inr y ↦ inr (and_from (is_from s e.kind) (has e.area n role x) from (others.only n role x y))
  ];
  kept = λ n role x h. joined_left (have new n role x) (have old n role x) (have more n role x) (is n role x) h;
  rest = λ n role x other small h. joined_right (have new n role x) (have old n role x) (have more n role x) (is n role x)
      (others.rest n role x other (source_kind s e.kind from small) (and_parts (is_from s e.kind) (has e.area n role x) h).1);
  sayable = λ range cuts h f old_say.
      let both = both_fit range old more old_say (others.sayable range cuts h f) in
      record { cuts = both.cuts; are_cuts = both.are_cuts; fit = fits range both.cuts both.first both.second };
}

pub adds_none : (chooser : CoreEnd) (s : Source) (e : Entry) (old : List Area) → is_from s e.kind ≡ false → AddsHeard chooser s e old old
adds_none chooser s e old from = record {
  only = λ n role x h. inl h;
  kept = λ n role x h. h;
  rest = λ n role x other small h. absurd (true≢false (sym (and_parts (is_from s e.kind) (has e.area n role x) h).0 ∙ from));
  sayable = λ range cuts h f old_say. old_say;
}

-- ---- all entries

no_place : (i : ℕ) → i < 0 → ⊥
no_place i lt = omega (arith, lt)

any_at : {X : Type 0} (p : X → Bool) (xs : List X) (i : ℕ) (d : X) → i < length xs → p (get_or xs i d) ≡ true → list_any p xs ≡ true
any_at p [] i d lt h = absurd (no_place i lt)
any_at p (y ∷ xs) zero d lt h = or_left (p y) (list_any p xs) h
any_at p (y ∷ xs) (suc i) d lt h = or_right (p y) (list_any p xs) (any_at p xs i d (omega (arith, lt)) h)

pub any_next : {X : Type 0} (p : X → Bool) (xs : List X) (i : ℕ) (d : X) → i < length xs → list_any p (drop i xs) ≡ true → (p (get_or xs i d) ≡ true) ⊎ (list_any p (drop (i + 1) xs) ≡ true)
any_next p xs i d lt h = or_cases (p (get_or xs i d)) (list_any p (drop (i + 1) xs)) (ap (list_any p) (sym (drop_more xs i d lt)) ∙ h)

pub any_none : {X : Type 0} (p : X → Bool) (xs : List X) (i : ℕ) → length xs ≤ i → list_any p (drop i xs) ≡ true → ⊥
any_none p xs i le h = false≢true (ap (list_any p) (sym (drop_of_length-le xs le)) ∙ h)

small_at : (es : List Entry) (i : ℕ) (d : Entry) → i < length es → are_small es ≡ true → is_small_kind (get_or es i d).kind ≡ true
small_at [] i d lt h = absurd (no_place i lt)
small_at (e ∷ es) zero d lt h = (and_parts (is_small_kind e.kind) (are_small es) h).0
small_at (e ∷ es) (suc i) d lt h = small_at es i d (omega (arith, lt)) (and_parts (is_small_kind e.kind) (are_small es) h).1

-- the entries up to a place have been added
pub record HeardSoFar (chooser : CoreEnd) (s : Source) (es : List Entry) (i : ℕ) (areas : List Area) : Type 0 where
  pub only : (n : ℤ) (role : ℕ) (x : ℤ) → have areas n role x ≡ true → hears s es n role x ≡ true
  pub rest : (n : ℤ) (role : ℕ) (x : ℤ) → IsOther chooser s n role x → are_small es ≡ true → hears s es n role x ≡ true → (have areas n role x ≡ true) ⊎ (hears s (drop i es) n role x ≡ true)
  pub sayable : (range : NRange) (cuts : List Lin) → All IsCut cuts → EntriesFit range cuts es → AreSayable range areas

pub heard_start : (chooser : CoreEnd) (s : Source) (es : List Entry) (areas : List Area) → areas ≡ [] → HeardSoFar chooser s es 0 areas
heard_start chooser s es areas e = subst (λ z. HeardSoFar chooser s es 0 z) (sym e) (record {
  only = λ n role x h. absurd (false≢true h);
  rest = λ n role x other small h. inr h;
  sayable = λ range cuts h f. record { cuts = cuts; are_cuts = h; fit = All-nil (Fits range cuts) };
})

pub heard_step : (chooser : CoreEnd) (s : Source) (es : List Entry) (i : ℕ) (d : Entry) (old new : List Area) → i < length es → AddsHeard chooser s (get_or es i d) old new → HeardSoFar chooser s es i old → HeardSoFar chooser s es (i + 1) new
heard_step chooser s es i d old new lt adds h = record {
  only = λ n role x k. elim (adds.only n role x k) [
    | inl y ↦ h.only n role x y
    | inr y ↦ any_at (λ e. is_from s e.kind && has e.area n role x) es i d lt y
  ];
  rest = λ n role x other small k. elim (h.rest n role x other small k) [
    | inl y ↦ inl (adds.kept n role x y)
    | inr y ↦ elim (any_next (λ e. is_from s e.kind && has e.area n role x) es i d lt y) [
      | inl z ↦ inl (adds.rest n role x other (small_at es i d lt small) z)
      | inr z ↦ inr z
    ]
  ];
  sayable = λ range cuts k f. adds.sayable range cuts k (fit_at range cuts es i d lt f) (h.sayable range cuts k f);
}

pub heard_end : (chooser : CoreEnd) (s : Source) (es : List Entry) (i : ℕ) (areas : List Area) → length es ≤ i → HeardSoFar chooser s es i areas → IsHeard chooser s es areas
heard_end chooser s es i areas le h = record {
  only = h.only;
  rest = λ n role x other small k. elim (h.rest n role x other small k) [
    | inl y ↦ y
    | inr y ↦ absurd (any_none (λ e. is_from s e.kind && has e.area n role x) es i le y)
  ];
  sayable = h.sayable;
}

-- ---- for whom the source isn't the chooser

beyond : (v l b : Bool) → v ≡ l && not (b || false) → v ≡ true → b ≡ false
beyond v l b e h = grind (arith, nat_tests)

alone_has : (a : Area) (n : ℤ) (role : ℕ) (x : ℤ) → have (a ∷ []) n role x ≡ has a n role x
alone_has a n role x = or-false (has a n role x)

pub strangers_alone : (chooser : CoreEnd) (a : Area) (s : Source) (all left new : List Area) (same end : Area) → ((n : ℤ) (role : ℕ) (x : ℤ) → have all n role x ≡ has a n role x) → IsAgreement a s (source_at chooser) same →
    IsEndArea chooser end → ((n : ℤ) (role : ℕ) (x : ℤ) → have left n role x ≡ have all n role x && not (have (same ∷ []) n role x)) →
    ((n : ℤ) (role : ℕ) (x : ℤ) → have new n role x ≡ have left n role x && not (have (end ∷ []) n role x)) → AreStrangers chooser s (a ∷ []) new
strangers_alone chooser a s all left new same end is met ends one two = record {
  only = λ n role x h. alone_has a n role x ∙ inside n role x h;
  apart = λ n role x near small small_s h.
      sym (met.is n role x small_s (small_bools chooser.at.off small) near (inside n role x h)) ∙ beyond (have left n role x) (have all n role x) (has same n role x) (one n role x) (in_left n role x h);
  else_where = λ n role x near small h. sym (ends.is n role x near small) ∙ beyond (have new n role x) (have left n role x) (has end n role x) (two n role x) h;
  rest = λ n role x other small h.
      let here : has a n role x ≡ true = sym (alone_has a n role x) ∙ h in
      left_over (have new n role x) (have left n role x) (has end n role x) (two n role x)
      (left_over (have left n role x) (have all n role x) (has same n role x) (one n role x) (is n role x ∙ here)
      (met.is n role x small (small_bools chooser.at.off other.small) other.near here ∙ other.apart))
      (ends.is n role x other.near other.small ∙ other.else_where);
}
  where
    in_left : (n : ℤ) (role : ℕ) (x : ℤ) → have new n role x ≡ true → have left n role x ≡ true
    in_left n role x h = taken (have new n role x) (have left n role x) (has end n role x) (two n role x) h

    inside : (n : ℤ) (role : ℕ) (x : ℤ) → have new n role x ≡ true → has a n role x ≡ true
    inside n role x h = sym (is n role x) ∙ taken (have left n role x) (have all n role x) (has same n role x) (one n role x) (in_left n role x h)

-- those of the areas before place i
pub record StrangersSoFar (chooser : CoreEnd) (s : Source) (areas : List Area) (i : ℕ) (list : List Area) : Type 0 where
  pub only : (n : ℤ) (role : ℕ) (x : ℤ) → have list n role x ≡ true → have areas n role x ≡ true
  pub apart : (n : ℤ) (role : ℕ) (x : ℤ) → pos 0 ≤ℤ n → is_small chooser.at.off ≡ true → is_small_off s.at.off ≡ true → have list n role x ≡ true → agrees s (source_at chooser) n x ≡ false
  pub else_where : (n : ℤ) (role : ℕ) (x : ℤ) → pos 0 ≤ℤ n → is_small chooser.at.off ≡ true → have list n role x ≡ true → is_at chooser n (pos 0) role x ≡ false
  pub rest : (n : ℤ) (role : ℕ) (x : ℤ) → IsOther chooser s n role x → is_small_off s.at.off ≡ true → have areas n role x ≡ true → (have list n role x ≡ true) ⊎ (have (drop i areas) n role x ≡ true)

pub strangers_start : (chooser : CoreEnd) (s : Source) (areas list : List Area) → list ≡ [] → StrangersSoFar chooser s areas 0 list
strangers_start chooser s areas list e = subst (StrangersSoFar chooser s areas 0) (sym e) (record {
  only = λ n role x h. absurd (false≢true h);
  apart = λ n role x near small small_s h. absurd (false≢true h);
  else_where = λ n role x near small h. absurd (false≢true h);
  rest = λ n role x other small h. inr h;
})

have_at : (areas : List Area) (i : ℕ) (d : Area) (n : ℤ) (role : ℕ) (x : ℤ) → i < length areas → has (get_or areas i d) n role x ≡ true → have areas n role x ≡ true
have_at [] i d n role x lt h = absurd (no_place i lt)
have_at (a ∷ areas) zero d n role x lt h = or_left (has a n role x) (have areas n role x) h
have_at (a ∷ areas) (suc i) d n role x lt h = or_right (has a n role x) (have areas n role x) (have_at areas i d n role x (omega (arith, lt)) h)

pub strangers_step : (chooser : CoreEnd) (s : Source) (areas : List Area) (i : ℕ) (d : Area) (old more new : List Area) → i < length areas → AreStrangers chooser s (get_or areas i d ∷ []) more →
    ((n : ℤ) (role : ℕ) (x : ℤ) → have new n role x ≡ have old n role x || have more n role x) → StrangersSoFar chooser s areas i old → StrangersSoFar chooser s areas (i + 1) new
strangers_step chooser s areas i d old more new lt one is h =
    let a : Area = get_or areas i d in
    record {
      only = λ n role x k. elim (either (have new n role x) (have old n role x) (have more n role x) (is n role x) k) [
        | inl y ↦ h.only n role x y
        | inr y ↦ have_at areas i d n role x lt (sym (alone_has a n role x) ∙ one.only n role x y)
      ];
      apart = λ n role x near small small_s k. elim (either (have new n role x) (have old n role x) (have more n role x) (is n role x) k) [
        | inl y ↦ h.apart n role x near small small_s y
        | inr y ↦ one.apart n role x near small small_s y
      ];
      else_where = λ n role x near small k. elim (either (have new n role x) (have old n role x) (have more n role x) (is n role x) k) [
        | inl y ↦ h.else_where n role x near small y
        | inr y ↦ one.else_where n role x near small y
      ];
      rest = λ n role x other small k. elim (h.rest n role x other small k) [
        | inl y ↦ inl (joined_left (have new n role x) (have old n role x) (have more n role x) (is n role x) y)
        | inr y ↦ elim (or_cases (has a n role x) (have (drop (i + 1) areas) n role x) (ap (λ z. have z n role x) (sym (drop_more areas i d lt)) ∙ y)) [
          | inl z ↦ inl (joined_right (have new n role x) (have old n role x) (have more n role x) (is n role x) (one.rest n role x other small (alone_has a n role x ∙ z)))
          | inr z ↦ inr z
        ]
      ];
    }

pub strangers_end : (chooser : CoreEnd) (s : Source) (areas : List Area) (i : ℕ) (list : List Area) → length areas ≤ i → StrangersSoFar chooser s areas i list → AreStrangers chooser s areas list
strangers_end chooser s areas i list le h = record {
  only = h.only;
  apart = h.apart;
  else_where = h.else_where;
  rest = λ n role x other small k. elim (h.rest n role x other small k) [
    | inl y ↦ y
    | inr y ↦ absurd (false≢true (ap (λ z. have z n role x) (sym (drop_of_length-le areas le)) ∙ y))
  ];
}

-- ---- the sources of entries

listed_push : (list : List Source) (t s : Source) → is_listed s (list ++ t ∷ []) ≡ is_listed s list || same_source s t
listed_push [] t s = or-false (same_source s t)
listed_push (u ∷ list) t s = ap (λ z. same_source s u || z) (listed_push list t s) ∙ sym (or_assoc (same_source s u) (is_listed s list) (same_source s t))

pub listed_kept : (list new : List Source) (t s : Source) → new ≡ list ++ t ∷ [] → is_listed s list ≡ true → is_listed s new ≡ true
listed_kept list new t s e h = ap (is_listed s) e ∙ listed_push list t s ∙ or_left (is_listed s list) (same_source s t) h

pub listed_there : (list new : List Source) (t : Source) → new ≡ list ++ t ∷ [] → is_listed t new ≡ true
listed_there list new t e = ap (is_listed t) e ∙ listed_push list t t ∙ or_right (is_listed t list) (same_source t t) (source_self t)

pub listed_from : (s t : Source) (list : List Source) → same_source s t ≡ true → is_listed t list ≡ true → is_listed s list ≡ true
listed_from s t list h k = subst (λ z. is_listed z list ≡ true) (sym (source_is s t h)) k

left_false : (a b : Bool) → a || b ≡ false → a ≡ false
left_false true b h = absurd (true≢false h)
left_false false b h = refl

right_false : (a b : Bool) → a || b ≡ false → b ≡ false
right_false true b h = absurd (true≢false h)
right_false false b h = h

differs : (u t : Source) → same_source t u ≡ false → same_source u t ≡ false
differs u t h = pick (same_source u t) refl
  where
    pick : (v : Bool) → v ≡ same_source u t → same_source u t ≡ false
    pick true e = absurd (true≢false (sym (source_self t) ∙ sym (ap (same_source t) (source_is u t (sym e))) ∙ h))
    pick false e = sym e

once_push : (list : List Source) (t : Source) → is_listed t list ≡ false → are_once list ≡ true → are_once (list ++ t ∷ []) ≡ true
once_push [] t h k = refl
once_push (u ∷ list) t h k =
    let parts = and_parts (not (is_listed u list)) (are_once list) k in
    let apart = differs u t (left_false (same_source t u) (is_listed t list) h) in
    and_from (not (is_listed u (list ++ t ∷ []))) (are_once (list ++ t ∷ []))
    (ap not (listed_push list t u ∙ ap (λ z. is_listed u list || z) apart ∙ or-false (is_listed u list)) ∙ parts.0) (once_push list t (right_false (same_source t u) (is_listed t list) h) parts.1)

pub once_pushed : (list new : List Source) (t : Source) → new ≡ list ++ t ∷ [] → is_listed t list ≡ false → are_once list ≡ true → are_once new ≡ true
once_pushed list new t e h k = ap are_once e ∙ once_push list t h k

-- the sources of the entries up to a place are there
abbrev pub ListedSoFar : List Entry → ℕ → List Source → Type 0
ListedSoFar es i list = (s : Source) → list_any (λ e. is_from s e.kind) es ≡ true → (is_listed s list ≡ true) ⊎ (list_any (λ e. is_from s e.kind) (drop i es) ≡ true)

pub listed_step : (es : List Entry) (i : ℕ) (d : Entry) (old new : List Source) → i < length es → ((s : Source) → is_listed s old ≡ true → is_listed s new ≡ true) →
    ((s : Source) → is_from s (get_or es i d).kind ≡ true → is_listed s new ≡ true) → ListedSoFar es i old → ListedSoFar es (i + 1) new
listed_step es i d old new lt kept there h s k = elim (h s k) [
  | inl y ↦ inl (kept s y)
  | inr y ↦ elim (any_next (λ e. is_from s e.kind) es i d lt y) [
    | inl z ↦ inl (there s z)
    | inr z ↦ inr z
  ]
]

pub listed_end : (es : List Entry) (i : ℕ) (list : List Source) → length es ≤ i → ListedSoFar es i list → (s : Source) → list_any (λ e. is_from s e.kind) es ≡ true → is_listed s list ≡ true
listed_end es i list le h s k = elim (h s k) [
  | inl y ↦ y
  | inr y ↦ absurd (any_none (λ e. is_from s e.kind) es i le y)
]
