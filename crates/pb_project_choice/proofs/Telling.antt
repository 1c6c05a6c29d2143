-- Who is told a branch by a label, by the entries and by the tests.
use Rattle.std.proofs.Common.{◌≡◌, ◌<◌, ◌≤◌, ◌+◌, inl, inr, ℕ, zero, suc, ◌==◌, ℤ, pos, Bool, true, false, ◌&&◌, ◌||◌, nat_eq, nat_lt, if◌then◌else◌, List, [], ◌∷◌, ◌++◌, drop, get_or, length, refl, sym, ap, ◌∙◌, subst, arith, drop_of_length-le}
use Rattle.std.specs.List.{All}
use Rattle.std.proofs.lemmas.List.{drop_more}
use Rattle.std.proofs.lemmas.List.Elements.{All-push, All-nil, All-weaker, All-tail, All-head}
use Rattle.std.proofs.lemmas.Bool.{and_parts, and_from, or_cases, or_left, or_right, true≢false, false≢true, eqb-true, eq-eqb}
use Rattle.std.proofs.lemmas.Bool.Decides.{nat_tests}
use Rattle.std.proofs.Math.Bool.{and_assoc, or-false, and-false}
use Rattle.pb_affine.specs.declared.guard.Guard.{Guard}
use Rattle.pb_affine.specs.declared.lin.Lin.{Lin}
use Rattle.pb_affine.specs.declared.range.NRange.{NRange}
use Rattle.pb_affine.specs.Values.{value, hold}
use Rattle.pb_part_areas.specs.declared.area.Area.{Area}
use Rattle.pb_part_areas.specs.Areas.{has, have}
use Rattle.pb_part_areas.specs.Fits.{Fits}
use Rattle.pb_cases.specs.Breakpoints.{IsCut}
use Rattle.pb_choice_entries.specs.Clashes.{is_label}
use Rattle.pb_choice.proofs.Members.{given}
use Rattle.pb_core_language.specs.declared.protocol.CoreRole.{CoreRole}
use Rattle.pb_core_language.specs.Flat.{branch_at}
use Rattle.pb_core_language.specs.FlatOf.{flat_branches}
use Rattle.pb_core_language.specs.Outcomes.{Outcome, receives, firsts}
use Rattle.pb_core_language.specs.Sound.{Rows, are_branches}
use Rattle.pb_core_language.specs.Tree.{BranchTrees}
use Rattle.pb_core_language.specs.Verdict.{IsIn}
use Rattle.pb_part_firsts.specs.declared.firsts.Entry.{Entry}
use Rattle.pb_part_firsts.specs.declared.firsts.Kind.{Kind}
use Rattle.pb_part_firsts.specs.declared.firsts.Kind.TheVariants.{Receive, Other, Again}
use Rattle.pb_part_firsts.specs.declared.firsts.Source.{Source}
use Rattle.pb_part_firsts.specs.Firsts.{finds, outcome_of}
use Rattle.pb_part_firsts.specs.Fitting.{EntriesFit}
use Rattle.pb_core_flat.specs.OutcomeSets.{outcome_eq}
use Rattle.pb_core_flat.specs.Seated.{rank, is_rank}
use Rattle.pb_core_flat.proofs.OutcomeTests.{label_is}
use Rattle.pb_local.specs.declared.stmt.Test.{Test}
use Rattle.pb_local.specs.Tree.{Program}
use Rattle.pb_local.specs.WellMade.{IsRange, IsGuard, IsTest, Ascend, ComesAfter}
use Rattle.pb_project_piece.specs.Ranked.{Ranked}
use Rattle.pb_project_piece.proofs.Nears.{few_fitting}
use Rattle.pb_project_piece.specs.Standing.{Stands}
use Rattle.pb_shape.specs.Places.{Scope}
use Rattle.pb_shape.specs.Loops.{Around}
use Rattle.pb_shape.specs.Choices.{guards_of, is_told}
use Rattle.pb_project_choice.specs.declared.entries.Branch.{Branch}
use Rattle.pb_project_choice.specs.Found.{entries_at, IsFoundIn, tells, AreKnown}
use Rattle.pb_project_choice.specs.Sayable.{AreSayable}
use Rattle.pb_project_choice.specs.Tested.{HasHolder, HaveHolders, TellSuch, IsTested, IsBefore, AscendTo}
use Rattle.pb_project_choice.proofs.Labels.{label_known}
use Rattle.pb_project_choice.proofs.Saying.{hold_append}

-- ---- the entries with a label

step_bools : (o o2 a d t : Bool) → o2 ≡ o || a → o || (a || d) ≡ t → o2 || d ≡ t
step_bools o o2 a d t e h = grind (arith, nat_tests)

pub tells_step : (l : ℕ) (es : List Entry) (i : ℕ) (e : Entry) (o o2 t : Bool) (n : ℤ) (role : ℕ) (x : ℤ) → i < length es → o2 ≡ o || (is_label l (get_or es i e).kind && has (get_or es i e).area n role x) →
    o || tells l (drop i es) n role x ≡ t → o2 || tells l (drop (i + 1) es) n role x ≡ t
tells_step l es i e o o2 t n role x lt added h =
    step_bools o o2 (is_label l (get_or es i e).kind && has (get_or es i e).area n role x) (tells l (drop (i + 1) es) n role x) t added
    (ap (λ z. o || tells l z n role x) (sym (drop_more es i e lt)) ∙ h)

pub tells_end : (l : ℕ) (es : List Entry) (i : ℕ) (o t : Bool) (n : ℤ) (role : ℕ) (x : ℤ) → length es ≤ i → o || tells l (drop i es) n role x ≡ t → o ≡ t
tells_end l es i o t n role x le h = sym (or-false o) ∙ sym (ap (λ z. o || tells l z n role x) (drop_of_length-le es le)) ∙ h

pub fit_at : (range : NRange) (cuts : List Lin) (es : List Entry) (i : ℕ) (e : Entry) → i < length es → EntriesFit range cuts es → Fits range cuts (get_or es i e).area
fit_at range cuts [] i e lt h = absurd (no_place i lt)
  where
    no_place : (i : ℕ) → i < 0 → ⊥
    no_place i lt = omega (arith, lt)
fit_at range cuts (f ∷ es) zero e lt h = h.0
fit_at range cuts (f ∷ es) (suc i) e lt h = fit_at range cuts es i e (omega (arith, lt)) h.1

-- ---- by entries, and by first outcomes

label_kind : (l : ℕ) (k : Kind) → is_label l k ≡ true → (s : Source) × (k ≡ Receive s l)
label_kind l (Receive s j) h = (s, ap (λ z. Receive s z) (sym (eqb-true l j h)))
label_kind l Other h = absurd (false≢true h)
label_kind l Again h = absurd (false≢true h)

self : (s l : ℕ) → outcome_eq (receives s l) (receives s l) ≡ true
self s l = and_from (s == s) (l == l) (eq-eqb s s refl) (eq-eqb l l refl)

pub finds_here : (roles : List CoreRole) (n : ℤ) (role : ℕ) (x : ℤ) (e : Entry) (es : List Entry) (s : Source) (l : ℕ) → e.kind ≡ Receive s l → has e.area n role x ≡ true →
    finds roles (e ∷ es) n role x (receives (rank roles n s.role (value s.at n x)) l) ≡ true
finds_here roles n role x e es s l is h =
    or_left (has e.area n role x && outcome_eq (outcome_of roles e.kind n x) (receives (rank roles n s.role (value s.at n x)) l)) _
    (and_from (has e.area n role x) (outcome_eq (outcome_of roles e.kind n x) (receives (rank roles n s.role (value s.at n x)) l)) h
    (ap (λ k. outcome_eq (outcome_of roles k n x) (receives (rank roles n s.role (value s.at n x)) l)) is ∙ self (rank roles n s.role (value s.at n x)) l))

tells_gives : (roles : List CoreRole) (l : ℕ) (es : List Entry) (n : ℤ) (role : ℕ) (x : ℤ) → tells l es n role x ≡ true → (s : ℕ) × (finds roles es n role x (receives s l) ≡ true)
tells_gives roles l [] n role x h = absurd (false≢true h)
tells_gives roles l (e ∷ es) n role x h =
    elim (or_cases (is_label l e.kind && has e.area n role x) (tells l es n role x) h) [
      | inl y ↦ (let parts = and_parts (is_label l e.kind) (has e.area n role x) y in
          let k = label_kind l e.kind parts.0 in
          (rank roles n k.0.role (value k.0.at n x), finds_here roles n role x e es k.0 l k.1 parts.1))
      | inr y ↦ (let it = tells_gives roles l es n role x y in
          (it.0, or_right (has e.area n role x && outcome_eq (outcome_of roles e.kind n x) (receives it.0 l)) (finds roles es n role x (receives it.0 l)) it.1))
    ]

label_self : (l : ℕ) (k : Kind) (s : Source) → k ≡ Receive s l → is_label l k ≡ true
label_self l k s e = ap (is_label l) e ∙ eq-eqb l l refl

gives_tells : (roles : List CoreRole) (l : ℕ) (es : List Entry) (n : ℤ) (role : ℕ) (x : ℤ) (s : ℕ) → finds roles es n role x (receives s l) ≡ true → tells l es n role x ≡ true
gives_tells roles l es n role x s h =
    let g = given roles n role x es s l (λ e. is_label l e.kind && has e.area n role x) h in
    g.holds (and_from (is_label l g.entry.kind) (has g.entry.area n role x) (label_self l g.entry.kind g.source g.kind_is) g.has_it)

same_bools : (a b : Bool) → (a ≡ true → b ≡ true) → (b ≡ true → a ≡ true) → a ≡ b
same_bools true b f g = sym (f refl)
same_bools false true f g = g refl
same_bools false false f g = refl

-- the rank is told a branch by a label as the entries of the branch say
pub told_is : (sc : Scope) (a : Around) (bs : BranchTrees) (found : List Branch) → IsFoundIn sc a bs found → (k l : ℕ) (n i : ℤ) (role : ℕ) (x : ℤ) → IsIn sc.range n → is_rank sc.roles n role x ≡ true →
    tells l (entries_at k found) n role x ≡ is_told sc a bs k l n i role x
told_is sc a bs found h k l n i role x within is =
    let os : List Outcome = firsts (a.held n role x) (rank sc.roles n role x) (branch_at k (flat_branches sc.roles n a.opens (pos 0) bs)) in
    same_bools (tells l (entries_at k found) n role x) (is_told sc a bs k l n i role x)
    (λ e. let it = tells_gives sc.roles l (entries_at k found) n role x e in (label_is os l).1 (it.0, sym (h.finds_is k n role x it.0 l within is) ∙ it.1))
    (λ e. let it = (label_is os l).0 e in gives_tells sc.roles l (entries_at k found) n role x it.0 (h.finds_is k n role x it.0 l within is ∙ it.1))

-- the labels are those of the branches
pub labels_known : (sc : Scope) (a : Around) (bs : BranchTrees) (found : List Branch) (rows : Rows) → IsFoundIn sc a bs found → are_branches rows a.opens bs ≡ true → (k : ℕ) → AreKnown sc (entries_at k found) rows.labels
labels_known sc a bs found rows h sound k = λ n role x l within is told.
    let it = tells_gives sc.roles l (entries_at k found) n role x told in
    label_known it.0 l rows sc.roles n (rank sc.roles n role x) k a.opens bs sound (a.held n role x) (sym (h.finds_is k n role x it.0 l within is) ∙ it.1)

-- ---- a test

guards_append : (j l : ℕ) (ts : List Test) (t : Test) → guards_of j l (ts ++ t ∷ []) ≡ guards_of j l ts ++ (if nat_eq j t.branch && nat_eq l t.label then t.guards else [])
guards_append j l [] t = last (nat_eq j t.branch && nat_eq l t.label) t.guards
  where
    last : (b : Bool) (gs : List Guard) → (if b then gs ++ [] else []) ≡ (if b then gs else [])
    last true gs = nil gs
      where
        nil : (gs : List Guard) → gs ++ [] ≡ gs
        nil [] = refl
        nil (g ∷ gs) = ap (λ z. g ∷ z) (nil gs)
    last false gs = refl
guards_append j l (s ∷ ts) t =
    ap (λ z. if nat_eq j s.branch && nat_eq l s.label then s.guards ++ z else z) (guards_append j l ts t)
    ∙ front (nat_eq j s.branch && nat_eq l s.label) s.guards (guards_of j l ts) (if nat_eq j t.branch && nat_eq l t.label then t.guards else [])
  where
    assoc : (xs ys zs : List Guard) → xs ++ (ys ++ zs) ≡ (xs ++ ys) ++ zs
    assoc [] ys zs = refl
    assoc (x ∷ xs) ys zs = ap (λ z. x ∷ z) (assoc xs ys zs)

    front : (b : Bool) (xs ys zs : List Guard) → (if b then xs ++ (ys ++ zs) else ys ++ zs) ≡ (if b then xs ++ ys else ys) ++ zs
    front true xs ys zs = assoc xs ys zs
    front false xs ys zs = refl

hold_if : (b : Bool) (gs : List Guard) (n i : ℤ) (role : ℕ) (x : ℤ) → hold (if b then gs else []) n i role x ≡ b && hold gs n i role x
hold_if true gs n i role x = refl
hold_if false gs n i role x = refl

same_label : (l m : ℕ) (f : ℕ → Bool) → nat_eq l m && f m ≡ nat_eq l m && f l
same_label l m f = by (nat_eq l m) refl
  where
    by : (b : Bool) → nat_eq l m ≡ b → nat_eq l m && f m ≡ nat_eq l m && f l
    by true e = ap (λ z. nat_eq l m && f z) (sym (eqb-true l m e))
    by false e = ap (λ z. z && f m) e ∙ sym (ap (λ z. z && f l) e)

pub holds_pushed : (j l k m : ℕ) (gs : List Guard) (old new : List Test) (es : List Entry) (n i : ℤ) (role : ℕ) (x : ℤ) → new ≡ old ++ (record { branch = k; label = m; guards = gs }) ∷ [] → hold gs n i role x ≡ tells m es n role x →
    hold (guards_of j l new) n i role x ≡ hold (guards_of j l old) n i role x || (nat_eq j k && (nat_eq l m && tells l es n role x))
holds_pushed j l k m gs old new es n i role x e h =
    let t : Test = record { branch = k; label = m; guards = gs } in
    ap (λ z. hold (guards_of j l z) n i role x) e
    ∙ ap (λ z. hold z n i role x) (guards_append j l old t)
    ∙ hold_append (guards_of j l old) (if nat_eq j k && nat_eq l m then gs else []) n i role x
    ∙ ap (λ z. hold (guards_of j l old) n i role x || z)
    (hold_if (nat_eq j k && nat_eq l m) gs n i role x ∙ ap (λ z. (nat_eq j k && nat_eq l m) && z) h ∙ and_assoc (nat_eq j k) (nat_eq l m) (tells m es n role x)
    ∙ ap (λ z. nat_eq j k && z) (same_label l m (λ q. tells q es n role x)))

nothing_bools : (o a : Bool) (l m : ℕ) (f : ℕ → Bool) → f m ≡ false → o ≡ o || (a && (nat_eq l m && f l))
nothing_bools o a l m f h =
    sym (or-false o) ∙ ap (λ z. o || z) (sym (ap (λ z. a && z) (sym (same_label l m f) ∙ ap (λ z. nat_eq l m && z) h) ∙ zero_bools a (nat_eq l m)))
  where
    zero_bools : (a b : Bool) → a && (b && false) ≡ false
    zero_bools true true = refl
    zero_bools true false = refl
    zero_bools false b = refl

pub some_guard : (gs : List Guard) (n i : ℤ) (role : ℕ) (x : ℤ) → hold gs n i role x ≡ true → 1 ≤ length gs
some_guard [] n i role x h = absurd (false≢true h)
some_guard (g ∷ gs) n i role x h = omega arith

pub rank_there : (range : NRange) (roles : ℕ) (whole : List Area) (sc : Scope) (n : ℤ) (role : ℕ) (x : ℤ) → Stands range roles whole sc → IsIn range n → have whole n role x ≡ true → is_rank sc.roles n role x ≡ true
rank_there range roles whole sc n role x st within h = sym (st.whole_is.is n role x within) ∙ h

in_scope : (range : NRange) (roles : ℕ) (whole : List Area) (sc : Scope) (n : ℤ) → Stands range roles whole sc → IsIn range n → IsIn sc.range n
in_scope range roles whole sc n st within = subst (λ r. IsIn r n) (sym st.range_is) within

sayable : (range : NRange) (cuts : List Lin) (areas : List Area) → All IsCut cuts → All (Fits range cuts) areas → AreSayable range areas
sayable range cuts areas h f = record { cuts = cuts; are_cuts = h; fit = f }

-- what guards of areas say
abbrev pub Says : NRange → ℕ → List Area → List Guard → Type 0
Says range roles areas gs = (list : List CoreRole) (n i : ℤ) (role : ℕ) (x : ℤ) → length list ≡ roles → IsRange range → AreSayable range areas → IsIn range n → is_rank list n role x ≡ true → hold gs n i role x ≡ have areas n role x

pub test_there : (range : NRange) (roles : ℕ) (whole areas : List Area) (k m : ℕ) (es : List Entry) (old new : List Test) (gs : List Guard) →
    ((n : ℤ) (role : ℕ) (x : ℤ) → have areas n role x ≡ tells m es n role x) → ((cuts : List Lin) → EntriesFit range cuts es → All (Fits range cuts) areas) → Ranked range whole areas →
    Says range roles areas gs → ((p : Program) → length p.roles ≡ roles → All (IsGuard p) gs) → new ≡ old ++ (record { branch = k; label = m; guards = gs }) ∷ [] →
    IsTested range roles whole k (λ l. nat_eq l m) es old new
test_there range roles whole areas k m es old new gs is fits there says guards e = record {
  holds = λ sc cuts st r h f j l n i role x within is_one.
      holds_pushed j l k m gs old new es n i role x e (says sc.roles n i role x (sym st.roles_is) r (sayable range cuts areas h (fits cuts f)) within is_one ∙ is n role x);
  each = λ p b sc cuts st r h f known same lt all.
      let is_one = rank_there range roles whole sc there.n there.role there.index st there.within there.rank in
      let held : hold gs there.n (pos 0) there.role there.index ≡ true = says sc.roles there.n (pos 0) there.role there.index (sym st.roles_is) r (sayable range cuts areas h (fits cuts f)) there.within is_one ∙ there.there in
      subst (All (IsTest p b)) (sym e) (All-push (IsTest p b) old (record { branch = k; label = m; guards = gs }) all (record {
        branch = lt;
        label = known there.n there.role there.index m (in_scope range roles whole sc there.n st there.within) is_one (sym (is there.n there.role there.index) ∙ there.there);
        guards = record { some = some_guard gs there.n (pos 0) there.role there.index held; each = guards p same };
      }));
  held = λ such sc cuts st r h f tell all.
      let is_one = rank_there range roles whole sc there.n there.role there.index st there.within there.rank in
      subst (HaveHolders range sc.roles such) (sym e) (All-push (λ t. HasHolder range sc.roles such t.guards) old (record { branch = k; label = m; guards = gs }) all (record {
        n = there.n;
        role = there.role;
        index = there.index;
        within = there.within;
        few = few_fitting range roles whole sc st areas there (record { cuts = cuts; small = h; fits = fits cuts f });
        rank = is_one;
        is = tell m there.n there.role there.index there.within is_one (sym (is there.n there.role there.index) ∙ there.there);
        holds = λ i. says sc.roles there.n i there.role there.index (sym st.roles_is) r (sayable range cuts areas h (fits cuts f)) there.within is_one ∙ there.there;
      }));
}

pub test_gone : (range : NRange) (roles : ℕ) (whole areas : List Area) (k m : ℕ) (es : List Entry) (old : List Test) →
    ((n : ℤ) (role : ℕ) (x : ℤ) → have areas n role x ≡ tells m es n role x) → ((n : ℤ) (role : ℕ) (x : ℤ) → IsIn range n → have whole n role x ≡ true → have areas n role x ≡ false) →
    IsTested range roles whole k (λ l. nat_eq l m) es old old
test_gone range roles whole areas k m es old is none = record {
  holds = λ sc cuts st r h f j l n i role x within is_one.
      nothing_bools _ (nat_eq j k) l m (λ q. tells q es n role x) (sym (is n role x) ∙ none n role x within (st.whole_is.is n role x within ∙ is_one));
  each = λ p b sc cuts st r h f known same lt all. all;
  held = λ such sc cuts st r h f tell all. all;
}

-- ---- in order

before_after : (k l : ℕ) (s t : Test) → t.branch ≡ k → t.label ≡ l → IsBefore k l s → ComesAfter s t
before_after k l s t e f (inl h) = inl (subst (λ z. s.branch < z) (sym e) h)
before_after k l s t e f (inr h) = inr (h.0 ∙ sym e, subst (λ z. s.label < z) (sym f) h.1)

ascend_push : (ts : List Test) (t : Test) → Ascend ts → All (λ s. ComesAfter s t) ts → Ascend (ts ++ t ∷ [])
ascend_push [] t a h = tt
ascend_push (s ∷ []) t a h = (All-head (λ s. ComesAfter s t) s [] h, tt)
ascend_push (s ∷ u ∷ ts) t a h = (a.0, ascend_push (u ∷ ts) t a.1 (All-tail (λ s. ComesAfter s t) s (u ∷ ts) h))

before_next : (k l : ℕ) (t : Test) → IsBefore k l t → IsBefore k (l + 1) t
before_next k l t (inl h) = inl h
before_next k l t (inr h) = let lt = h.1 in inr (h.0, omega (arith, lt))

pub ascend_on : (k l : ℕ) (ts : List Test) → AscendTo k l ts → AscendTo k (l + 1) ts
ascend_on k l ts h = record { ascend = h.ascend; before = All-weaker (IsBefore k l) (IsBefore k (l + 1)) (before_next k l) ts h.before }

pub ascend_with : (k l : ℕ) (gs : List Guard) (old new : List Test) → new ≡ old ++ (record { branch = k; label = l; guards = gs }) ∷ [] → AscendTo k l old → AscendTo k (l + 1) new
ascend_with k l gs old new e h =
    let t : Test = record { branch = k; label = l; guards = gs } in
    subst (AscendTo k (l + 1)) (sym e) (record {
      ascend = ascend_push old t h.ascend (All-weaker (IsBefore k l) (λ s. ComesAfter s t) (λ s. before_after k l s t refl refl) old h.before);
      before = All-push (IsBefore k (l + 1)) old t (ascend_on k l old h).before (inr (refl, omega arith));
    })

-- at a later label
pub ascend_later : (k l m : ℕ) (ts : List Test) → l ≤ m → AscendTo k l ts → AscendTo k m ts
ascend_later k l m ts le h = record { ascend = h.ascend; before = All-weaker (IsBefore k l) (IsBefore k m) (later k l m le) ts h.before }
  where
    later : (k l m : ℕ) → l ≤ m → (t : Test) → IsBefore k l t → IsBefore k m t
    later k l m le t (inl h) = inl h
    later k l m le t (inr h) = let lt = h.1 in inr (h.0, omega (arith, le, lt))

-- at the next branch
pub ascend_branch : (k l : ℕ) (ts : List Test) → AscendTo k l ts → AscendTo (k + 1) 0 ts
ascend_branch k l ts h = record { ascend = h.ascend; before = All-weaker (IsBefore k l) (IsBefore (k + 1) 0) (next k l) ts h.before }
  where
    next : (k l : ℕ) (t : Test) → IsBefore k l t → IsBefore (k + 1) 0 t
    next k l t (inl h) = inl (omega (arith, h))
    next k l t (inr h) = let e = h.0 in inl (omega (arith, e))

pub ascend_none : (k l : ℕ) (ts : List Test) → ts ≡ [] → AscendTo k l ts
ascend_none k l ts e = subst (AscendTo k l) (sym e) (record { ascend = tt; before = All-nil (IsBefore k l) })

-- ---- the tests of all branches

pub entries_here : (found : List Branch) (i : ℕ) (b : Branch) → i < length found → (get_or found i b).entries.items ≡ entries_at i found
entries_here [] i b lt = absurd (no_place i lt)
  where
    no_place : (i : ℕ) → i < 0 → ⊥
    no_place i lt = omega (arith, lt)
entries_here (c ∷ found) zero b lt = refl
entries_here (c ∷ found) (suc i) b lt = entries_here found i b (omega (arith, lt))

entries_past : (found : List Branch) (i : ℕ) → length found ≤ i → entries_at i found ≡ []
entries_past [] i le = refl
entries_past (c ∷ found) zero le = absurd (no_place (length found) le)
  where
    no_place : (m : ℕ) → suc m ≤ 0 → ⊥
    no_place m le = omega (arith, le)
entries_past (c ∷ found) (suc i) le = entries_past found i (omega (arith, le))

more_bools : (o n t : Bool) (j i : ℕ) → o ≡ nat_lt j i && t → n ≡ o || (nat_eq j i && t) → n ≡ nat_lt j (i + 1) && t
more_bools o n t j i e f = grind (arith, nat_tests)

pub holds_more : (found : List Branch) (i number : ℕ) (es : List Entry) (o new : Bool) (j m : ℕ) (n : ℤ) (role : ℕ) (x : ℤ) → number ≡ i → es ≡ entries_at i found →
    o ≡ nat_lt j i && tells m (entries_at j found) n role x → new ≡ o || (nat_eq j number && (true && tells m es n role x)) → new ≡ nat_lt j (i + 1) && tells m (entries_at j found) n role x
holds_more found i number es o new j m n role x e f h k =
    more_bools o new (tells m (entries_at j found) n role x) j i h
    (k ∙ ap (λ z. o || (nat_eq j z && tells m es n role x)) e ∙ ap (λ z. o || (nat_eq j i && tells m z n role x)) f
    ∙ ap (λ z. o || z) (same_label j i (λ q. tells m (entries_at q found) n role x)))

not_less : (j i : ℕ) → nat_lt j i ≡ false → i ≤ j
not_less j i e = grind (arith, nat_tests)

all_bools : (t : Bool) (j i : ℕ) → (i ≤ j → t ≡ false) → nat_lt j i && t ≡ t
all_bools true j i h = by (nat_lt j i) refl
  where
    by : (b : Bool) → nat_lt j i ≡ b → nat_lt j i && true ≡ true
    by true e = ap (λ z. z && true) e
    by false e = absurd (true≢false (h (not_less j i e)))
all_bools false j i h = and-false (nat_lt j i)

pub holds_all : (found : List Branch) (i : ℕ) (o : Bool) (j m : ℕ) (n : ℤ) (role : ℕ) (x : ℤ) → length found ≤ i → o ≡ nat_lt j i && tells m (entries_at j found) n role x → o ≡ tells m (entries_at j found) n role x
holds_all found i o j m n role x le h =
    h ∙ all_bools (tells m (entries_at j found) n role x) j i (λ past. ap (λ z. tells m z n role x) (entries_past found j (omega (arith, le, past))))

start_lt : (j : ℕ) (t : Bool) → false ≡ nat_lt j 0 && t
start_lt j t = grind (arith, nat_tests)

pub holds_none : (found : List Branch) (ts : List Test) (j m : ℕ) (n i : ℤ) (role : ℕ) (x : ℤ) → ts ≡ [] → hold (guards_of j m ts) n i role x ≡ nat_lt j 0 && tells m (entries_at j found) n role x
holds_none found ts j m n i role x e = ap (λ z. hold (guards_of j m z) n i role x) e ∙ start_lt j (tells m (entries_at j found) n role x)

pub fit_in : (range : NRange) (sc : Scope) (a : Around) (bs : BranchTrees) (found : List Branch) → sc.range ≡ range → (h : IsFoundIn sc a bs found) → (k : ℕ) → EntriesFit range h.cuts (entries_at k found)
fit_in range sc a bs found e h k = subst (λ r. EntriesFit r h.cuts (entries_at k found)) e (h.fit k)

-- nobody else is told
pub tell_such : (sc : Scope) (a : Around) (bs : BranchTrees) (found : List Branch) (range : NRange) (such : ℤ → ℕ → ℤ → Bool) → sc.range ≡ range → IsFoundIn sc a bs found →
    ((k l : ℕ) (n : ℤ) (role : ℕ) (x : ℤ) → IsIn sc.range n → is_rank sc.roles n role x ≡ true → is_told sc a bs k l n (pos 0) role x ≡ true → such n role x ≡ true) → (k : ℕ) → TellSuch range sc.roles such (entries_at k found)
tell_such sc a bs found range such same h told k = λ l n role x within is t.
    let w : IsIn sc.range n = subst (λ r. IsIn r n) (sym same) within in
    told k l n role x w is (sym (told_is sc a bs found h k l n (pos 0) role x w is) ∙ t)
