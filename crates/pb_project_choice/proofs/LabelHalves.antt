-- The entries of a branch in halves by their labels, and what the tests of both halves are together.
use Rattle.std.proofs.Common.{◌≡◌, ◌<◌, ◌≤◌, ◌+◌, inl, inr, ℕ, suc, ℤ, Bool, true, false, ◌&&◌, ◌||◌, nat_eq, List, [], ◌∷◌, ◌++◌, drop, get_or, length, refl, sym, ap, ◌∙◌, subst, arith, drop_of_length-le}
use Rattle.std.proofs.lemmas.List.{drop_more}
use Rattle.std.proofs.lemmas.List.Folds.{list_any-append}
use Rattle.std.proofs.lemmas.Bool.{and_parts, or_cases, or_left, or_right, or_from, false≢true, eqb-true}
use Rattle.std.proofs.lemmas.Bool.Decides.{nat_tests}
use Rattle.std.proofs.Math.Bool.{or-false}
use Rattle.pb_affine.specs.declared.lin.Lin.{Lin}
use Rattle.pb_affine.specs.declared.range.NRange.{NRange}
use Rattle.pb_part_areas.specs.declared.area.Area.{Area}
use Rattle.pb_part_areas.specs.Areas.{has}
use Rattle.pb_part_areas.specs.Fits.{Fits}
use Rattle.pb_choice_entries.specs.Clashes.{is_label}
use Rattle.pb_part_firsts.specs.declared.firsts.Entry.{Entry}
use Rattle.pb_part_firsts.specs.declared.firsts.Kind.{Kind}
use Rattle.pb_part_firsts.specs.declared.firsts.Kind.TheVariants.{Receive}
use Rattle.pb_part_firsts.specs.declared.firsts.Source.{Source}
use Rattle.pb_part_firsts.specs.Fitting.{EntriesFit}
use Rattle.pb_local.specs.declared.stmt.Test.{Test}
use Rattle.pb_project_choice.specs.Found.{has_label, tells}
use Rattle.pb_project_choice.specs.Tested.{LabelsWithin, IsPut, IsTested, AscendTo}
use Rattle.pb_project_choice.proofs.Telling.{ascend_later}

-- ---- the label of an entry

pub receive_label : (l label : ℕ) (s : Source) (kind : Kind) → kind ≡ Receive s label → is_label l kind ≡ true → l ≡ label
receive_label l label s kind e h = eqb-true l label (sym (ap (is_label l) e) ∙ h)

told_has : (l : ℕ) (es : List Entry) (n : ℤ) (role : ℕ) (x : ℤ) → tells l es n role x ≡ true → has_label l es ≡ true
told_has l [] n role x h = absurd (false≢true h)
told_has l (e ∷ es) n role x h =
    elim (or_cases (is_label l e.kind && has e.area n role x) (tells l es n role x) h) [
      | inl y ↦ or_left (is_label l e.kind) (has_label l es) (and_parts (is_label l e.kind) (has e.area n role x) y).0
      | inr y ↦ or_right (is_label l e.kind) (has_label l es) (told_has l es n role x y)
    ]

-- ---- the greatest label

pub most_step : (es : List Entry) (i : ℕ) (e : Entry) (best next : ℕ) → i < length es → best ≤ next → ((l : ℕ) → is_label l (get_or es i e).kind ≡ true → l ≤ next) →
    ((l : ℕ) → has_label l es ≡ true → has_label l (drop i es) ≡ false → l ≤ best) → (l : ℕ) → has_label l es ≡ true → has_label l (drop (i + 1) es) ≡ false → l ≤ next
most_step es i e best next lt le here before = λ l there none. by l there none (is_label l (get_or es i e).kind) refl
  where
    by : (l : ℕ) → has_label l es ≡ true → has_label l (drop (i + 1) es) ≡ false → (b : Bool) → is_label l (get_or es i e).kind ≡ b → l ≤ next
    by l there none true h = here l h
    by l there none false h =
        let least : l ≤ best = before l there (ap (λ z. has_label l z) (drop_more es i e lt) ∙ or_from (is_label l (get_or es i e).kind) (has_label l (drop (i + 1) es)) h none) in
        omega (arith, le, least)

pub most_done : (es : List Entry) (i best : ℕ) → length es ≤ i → ((l : ℕ) → has_label l es ≡ true → has_label l (drop i es) ≡ false → l ≤ best) → LabelsWithin 0 best es
most_done es i best le before = λ l there. (omega arith, before l there (ap (λ z. has_label l z) (drop_of_length-le es le)))

-- ---- an entry that is added

tells_added : (l : ℕ) (es new : List Entry) (e : Entry) (n : ℤ) (role : ℕ) (x : ℤ) → new ≡ es ++ e ∷ [] → tells l new n role x ≡ tells l es n role x || (is_label l e.kind && has e.area n role x)
tells_added l es new e n role x added =
    ap (λ z. tells l z n role x) added ∙ list_any-append (λ f. is_label l f.kind && has f.area n role x) es (e ∷ [])
    ∙ ap (λ z. tells l es n role x || z) (or-false (is_label l e.kind && has e.area n role x))

label_added : (l : ℕ) (es new : List Entry) (e : Entry) → new ≡ es ++ e ∷ [] → has_label l new ≡ has_label l es || is_label l e.kind
label_added l es new e added =
    ap (λ z. has_label l z) added ∙ list_any-append (λ f. is_label l f.kind) es (e ∷ []) ∙ ap (λ z. has_label l es || z) (or-false (is_label l e.kind))

within_added : (least most : ℕ) (es new : List Entry) (e : Entry) → new ≡ es ++ e ∷ [] → LabelsWithin least most es → ((l : ℕ) → is_label l e.kind ≡ true → (least ≤ l) × (l ≤ most)) → LabelsWithin least most new
within_added least most es new e added h k = λ l there.
    elim (or_cases (has_label l es) (is_label l e.kind) (sym (label_added l es new e added) ∙ there)) [
      | inl y ↦ h l y
      | inr y ↦ k l y
    ]

fit_more : (range : NRange) (cuts : List Lin) (es : List Entry) (e : Entry) → EntriesFit range cuts es → Fits range cuts e.area → EntriesFit range cuts (es ++ e ∷ [])
fit_more range cuts [] e h k = (k, tt)
fit_more range cuts (f ∷ es) e h k = (h.0, fit_more range cuts es e h.1 k)

fit_added : (range : NRange) (cuts : List Lin) (es new : List Entry) (e : Entry) → new ≡ es ++ e ∷ [] → EntriesFit range cuts es → Fits range cuts e.area → EntriesFit range cuts new
fit_added range cuts es new e added h k = subst (EntriesFit range cuts) (sym added) (fit_more range cuts es e h k)

-- ---- halves

-- the entries are those of both halves and the rest, and the labels up to the middle are in the first
pub record Halved (middle : ℕ) (all rest low high : List Entry) : Type 0 where
  pub told : (l : ℕ) (n : ℤ) (role : ℕ) (x : ℤ) → (tells l low n role x || tells l high n role x) || tells l rest n role x ≡ tells l all n role x
  pub below : (least most : ℕ) → LabelsWithin least most all → LabelsWithin least middle low
  pub above : (least most : ℕ) → LabelsWithin least most all → LabelsWithin (middle + 1) most high
  pub coming : (least most : ℕ) → LabelsWithin least most all → LabelsWithin least most rest
  pub low_fits : (range : NRange) (cuts : List Lin) → EntriesFit range cuts all → EntriesFit range cuts low
  pub high_fits : (range : NRange) (cuts : List Lin) → EntriesFit range cuts all → EntriesFit range cuts high
  pub rest_fits : (range : NRange) (cuts : List Lin) → EntriesFit range cuts all → EntriesFit range cuts rest

no_labels : (least most : ℕ) (es : List Entry) → es ≡ [] → LabelsWithin least most es
no_labels least most es e = λ l there. absurd (false≢true (sym (ap (λ z. has_label l z) e) ∙ there))

none_fit : (range : NRange) (cuts : List Lin) (es : List Entry) → es ≡ [] → EntriesFit range cuts es
none_fit range cuts es e = subst (EntriesFit range cuts) (sym e) tt

pub halved_none : (middle : ℕ) (all low high : List Entry) → low ≡ [] → high ≡ [] → Halved middle all all low high
halved_none middle all low high e f = record {
  told = λ l n role x. ap (λ z. (tells l z n role x || tells l high n role x) || tells l all n role x) e ∙ ap (λ z. tells l z n role x || tells l all n role x) f;
  below = λ least most h. no_labels least middle low e;
  above = λ least most h. no_labels (middle + 1) most high f;
  coming = λ least most h. h;
  low_fits = λ range cuts h. none_fit range cuts low e;
  high_fits = λ range cuts h. none_fit range cuts high f;
  rest_fits = λ range cuts h. h;
}

-- the first of the rest
within_first : (least most : ℕ) (before rest : List Entry) (e : Entry) → before ≡ e ∷ rest → LabelsWithin least most before → (l : ℕ) → is_label l e.kind ≡ true → (least ≤ l) × (l ≤ most)
within_first least most before rest e split h l k = h l (ap (λ z. has_label l z) split ∙ or_left (is_label l e.kind) (has_label l rest) k)

within_others : (least most : ℕ) (before rest : List Entry) (e : Entry) → before ≡ e ∷ rest → LabelsWithin least most before → LabelsWithin least most rest
within_others least most before rest e split h = λ l k. h l (ap (λ z. has_label l z) split ∙ or_right (is_label l e.kind) (has_label l rest) k)

first_fits : (range : NRange) (cuts : List Lin) (before rest : List Entry) (e : Entry) → before ≡ e ∷ rest → EntriesFit range cuts before → Fits range cuts e.area × EntriesFit range cuts rest
first_fits range cuts before rest e split h = subst (EntriesFit range cuts) split h

low_bools : (low high a r b t new : Bool) → new ≡ low || a → b ≡ a || r → (low || high) || b ≡ t → (new || high) || r ≡ t
low_bools low high a r b t new e f h = grind (arith, nat_tests)

high_bools : (low high a r b t new : Bool) → new ≡ high || a → b ≡ a || r → (low || high) || b ≡ t → (low || new) || r ≡ t
high_bools low high a r b t new e f h = grind (arith, nat_tests)

halved_low : (middle : ℕ) (all before rest low new high : List Entry) (e : Entry) → before ≡ e ∷ rest → new ≡ low ++ e ∷ [] → ((l : ℕ) → is_label l e.kind ≡ true → l ≤ middle) →
    Halved middle all before low high → Halved middle all rest new high
halved_low middle all before rest low new high e split added up it = record {
  told = λ l n role x. low_bools (tells l low n role x) (tells l high n role x) (is_label l e.kind && has e.area n role x) (tells l rest n role x) (tells l before n role x) (tells l all n role x) (tells l new n role x)
      (tells_added l low new e n role x added) (ap (λ z. tells l z n role x) split) (it.told l n role x);
  below = λ least most h. within_added least middle low new e added (it.below least most h) (λ l k. ((within_first least most before rest e split (it.coming least most h) l k).0, up l k));
  above = it.above;
  coming = λ least most h. within_others least most before rest e split (it.coming least most h);
  low_fits = λ range cuts h. fit_added range cuts low new e added (it.low_fits range cuts h) (first_fits range cuts before rest e split (it.rest_fits range cuts h)).0;
  high_fits = it.high_fits;
  rest_fits = λ range cuts h. (first_fits range cuts before rest e split (it.rest_fits range cuts h)).1;
}

halved_high : (middle : ℕ) (all before rest low high new : List Entry) (e : Entry) → before ≡ e ∷ rest → new ≡ high ++ e ∷ [] → ((l : ℕ) → is_label l e.kind ≡ true → middle < l) →
    Halved middle all before low high → Halved middle all rest low new
halved_high middle all before rest low high new e split added up it = record {
  told = λ l n role x. high_bools (tells l low n role x) (tells l high n role x) (is_label l e.kind && has e.area n role x) (tells l rest n role x) (tells l before n role x) (tells l all n role x) (tells l new n role x)
      (tells_added l high new e n role x added) (ap (λ z. tells l z n role x) split) (it.told l n role x);
  below = it.below;
  above = λ least most h. within_added (middle + 1) most high new e added (it.above least most h)
      (λ l k. (past middle l (up l k), (within_first least most before rest e split (it.coming least most h) l k).1));
  coming = λ least most h. within_others least most before rest e split (it.coming least most h);
  low_fits = it.low_fits;
  high_fits = λ range cuts h. fit_added range cuts high new e added (it.high_fits range cuts h) (first_fits range cuts before rest e split (it.rest_fits range cuts h)).0;
  rest_fits = λ range cuts h. (first_fits range cuts before rest e split (it.rest_fits range cuts h)).1;
}
  where
    past : (m l : ℕ) → m < l → m + 1 ≤ l
    past m l lt = omega (arith, lt)

pub halved_put : (middle : ℕ) (all before rest low high new_low new_high : List Entry) (e : Entry) → before ≡ e ∷ rest → IsPut middle e low high new_low new_high → Halved middle all before low high → Halved middle all rest new_low new_high
halved_put middle all before rest low high new_low new_high e split (inl put) it =
    subst (λ z. Halved middle all rest new_low z) (sym put.1) (halved_low middle all before rest low new_low high e split put.0 put.2 it)
halved_put middle all before rest low high new_low new_high e split (inr put) it =
    subst (λ z. Halved middle all rest z new_high) (sym put.0) (halved_high middle all before rest low high new_high e split put.1 put.2 it)

pub halved_told : (middle : ℕ) (all rest low high : List Entry) → rest ≡ [] → Halved middle all rest low high → (l : ℕ) (n : ℤ) (role : ℕ) (x : ℤ) →
    tells l low n role x || tells l high n role x ≡ tells l all n role x
halved_told middle all rest low high e it l n role x =
    sym (or-false (tells l low n role x || tells l high n role x)) ∙ sym (ap (λ z. (tells l low n role x || tells l high n role x) || tells l z n role x) e) ∙ it.told l n role x

-- ---- the tests

none_bools : (o jk t : Bool) → t ≡ false → o ≡ o || (jk && (true && t))
none_bools o jk t h = grind (arith, nat_tests)

no_entries : (es : List Entry) → length es ≡ 0 → es ≡ []
no_entries [] e = refl
no_entries (f ∷ es) e = absurd (positive (length es) e)
  where
    positive : (m : ℕ) → suc m ≡ 0 → ⊥
    positive m e = omega (arith, e)

-- nobody is told
pub tested_none : (range : NRange) (roles : ℕ) (whole : List Area) (k : ℕ) (es : List Entry) (old : List Test) → length es ≡ 0 → IsTested range roles whole k (λ l. true) es old old
tested_none range roles whole k es old e = record {
  holds = λ sc cuts st r h f j l n i role x within is. none_bools _ (nat_eq j k) (tells l es n role x) (ap (λ z. tells l z n role x) (no_entries es e));
  each = λ p b sc cuts st r h f known same lt all. all;
  held = λ such sc cuts st r h f tell all. all;
}

one_bools : (o n jk t : Bool) (l m : ℕ) → n ≡ o || (jk && (nat_eq l m && t)) → (t ≡ true → l ≡ m) → n ≡ o || (jk && (true && t))
one_bools o n jk true l m e f = let same : l ≡ m = f refl in grind (arith, nat_tests)
one_bools o n jk false l m e f = grind (arith, nat_tests)

only_label : (least most l : ℕ) → most ≤ least → (least ≤ l) × (l ≤ most) → l ≡ least
only_label least most l le h = let low = h.0 in let high = h.1 in omega (arith, le, low, high)

-- all labels are one
pub tested_one : (range : NRange) (roles : ℕ) (whole : List Area) (k least most : ℕ) (es : List Entry) (old new : List Test) → most ≤ least → LabelsWithin least most es →
    IsTested range roles whole k (λ l. nat_eq l least) es old new → IsTested range roles whole k (λ l. true) es old new
tested_one range roles whole k least most es old new le within it = record {
  holds = λ sc cuts st r h f j l n i role x inside is. one_bools _ _ (nat_eq j k) (tells l es n role x) l least (it.holds sc cuts st r h f j l n i role x inside is)
      (λ told. only_label least most l le (within l (told_has l es n role x told)));
  each = it.each;
  held = it.held;
}

both_bools : (o m n jk a b t : Bool) → m ≡ o || (jk && (true && a)) → n ≡ m || (jk && (true && b)) → a || b ≡ t → n ≡ o || (jk && (true && t))
both_bools o m n jk a b t e f h = grind (arith, nat_tests)

-- those of both halves
pub tested_both : (range : NRange) (roles : ℕ) (whole : List Area) (k : ℕ) (es low high : List Entry) (old mid new : List Test) →
    ((l : ℕ) (n : ℤ) (role : ℕ) (x : ℤ) → tells l low n role x || tells l high n role x ≡ tells l es n role x) →
    ((range : NRange) (cuts : List Lin) → EntriesFit range cuts es → EntriesFit range cuts low × EntriesFit range cuts high) →
    IsTested range roles whole k (λ l. true) low old mid → IsTested range roles whole k (λ l. true) high mid new → IsTested range roles whole k (λ l. true) es old new
tested_both range roles whole k es low high old mid new told fits one two = record {
  holds = λ sc cuts st r h f j l n i role x within is.
      both_bools _ _ _ (nat_eq j k) (tells l low n role x) (tells l high n role x) (tells l es n role x) (one.holds sc cuts st r h (fits range cuts f).0 j l n i role x within is)
      (two.holds sc cuts st r h (fits range cuts f).1 j l n i role x within is) (told l n role x);
  each = λ p b sc cuts st r h f known same lt all.
      two.each p b sc cuts st r h (fits range cuts f).1
      (λ n role x l within is t. known n role x l within is (sym (told l n role x) ∙ or_right (tells l low n role x) (tells l high n role x) t)) same lt
      (one.each p b sc cuts st r h (fits range cuts f).0
      (λ n role x l within is t. known n role x l within is (sym (told l n role x) ∙ or_left (tells l low n role x) (tells l high n role x) t)) same lt all);
  held = λ such sc cuts st r h f tell all.
      two.held such sc cuts st r h (fits range cuts f).1
      (λ l n role x within is t. tell l n role x within is (sym (told l n role x) ∙ or_right (tells l low n role x) (tells l high n role x) t))
      (one.held such sc cuts st r h (fits range cuts f).0
      (λ l n role x within is t. tell l n role x within is (sym (told l n role x) ∙ or_left (tells l low n role x) (tells l high n role x) t)) all);
}

-- ---- in order

pub ascend_one : (k least most : ℕ) (ts : List Test) → least ≤ most → AscendTo k (least + 1) ts → AscendTo k (most + 1) ts
ascend_one k least most ts le h = ascend_later k (least + 1) (most + 1) ts (omega (arith, le)) h
