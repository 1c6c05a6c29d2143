-- Lists of guards with kinds, as they grow.
use Rattle.std.proofs.Common.{◌≡◌, ◌==◌, ℕ, ℤ, pos, List, [], ◌∷◌, ◌++◌, Bool, true, false, ◌||◌, ◌&&◌, length, refl, ap, sym, ◌∙◌, arith, subst}
use Rattle.std.specs.List.{All}
use Rattle.std.proofs.lemmas.Bool.Decides.{nat_tests}
use Rattle.pb_affine.specs.declared.lin.Lin.{Lin}
use Rattle.pb_affine.specs.declared.range.NRange.{NRange}
use Rattle.pb_affine.specs.Values.{hold}
use Rattle.pb_part_areas.specs.declared.area.Area.{Area}
use Rattle.pb_part_areas.specs.Areas.{has, have}
use Rattle.pb_part_areas.specs.Fits.{Fits}
use Rattle.pb_part_areas.specs.Small.{IsSmallArea}
use Rattle.pb_part_areas.proofs.Guarded.{fits_small}
use Rattle.pb_part_areas.proofs.Bools.{or_false, or_assoc}
use Rattle.pb_cases.specs.Breakpoints.{Division}
use Rattle.pb_cases.specs.Bounds.{IsAligned}
use Rattle.pb_core_language.specs.declared.protocol.CoreRole.{CoreRole}
use Rattle.pb_core_language.specs.Outcomes.{Outcome, nothing_first, receives, other_first, again_first}
use Rattle.pb_core_flat.specs.OutcomeSets.{outcome_eq, is_nothing}
use Rattle.pb_part_firsts.specs.declared.firsts.Entry.{Entry}
use Rattle.pb_part_firsts.specs.declared.firsts.Kind.{Kind}
use Rattle.pb_part_firsts.specs.declared.firsts.Kind.TheVariants.{Receive, Other, Again}
use Rattle.pb_part_firsts.specs.Firsts.{finds, outcome_of}
use Rattle.pb_part.specs.declared.kinds.First.{First}
use Rattle.pb_part.specs.declared.kinds.FirstKind.{FirstKind}
use Rattle.pb_part.specs.FirstLists.{answers, outcome_at, AreAligned}

answers_append : (roles : List CoreRole) (xs ys : List First) (n : ℤ) (role : ℕ) (x : ℤ) (o : Outcome) → answers roles (xs ++ ys) n role x o ≡ answers roles xs n role x o || answers roles ys n role x o
answers_append roles [] ys n role x o = refl
answers_append roles (f ∷ xs) ys n role x o =
    ap (λ z. (hold f.guards n (pos 0) role x && outcome_eq (outcome_at roles f.kind n x) o) || z) (answers_append roles xs ys n role x o)
    ∙ or_assoc (hold f.guards n (pos 0) role x && outcome_eq (outcome_at roles f.kind n x) o) (answers roles xs n role x o) (answers roles ys n role x o)

pub added : (roles : List CoreRole) (old new : List First) (f : First) (n : ℤ) (role : ℕ) (x : ℤ) (o : Outcome) (h : Bool) → new ≡ old ++ f ∷ [] → hold f.guards n (pos 0) role x ≡ h →
    answers roles new n role x o ≡ answers roles old n role x o || (h && outcome_eq (outcome_at roles f.kind n x) o)
added roles old new f n role x o h e k =
    ap (λ z. answers roles z n role x o) e ∙ answers_append roles old (f ∷ []) n role x o
    ∙ ap (λ z. answers roles old n role x o || z) (sym (or_false (hold f.guards n (pos 0) role x && outcome_eq (outcome_at roles f.kind n x) o)))
    ∙ ap (λ z. answers roles old n role x o || (z && outcome_eq (outcome_at roles f.kind n x) o)) k

pub nobody_added : (areas : List Area) (a e : Bool) (n : ℤ) (role : ℕ) (x : ℤ) → areas ≡ [] → a ≡ a || (have areas n role x && e)
nobody_added areas a e n role x h = or_false a ∙ ap (λ z. a || (have z n role x && e)) (sym h)

aligned_append : (d : Division) (xs ys : List First) → AreAligned d xs → AreAligned d ys → AreAligned d (xs ++ ys)
aligned_append d [] ys h k = k
aligned_append d (f ∷ xs) ys h k = (h.0, aligned_append d xs ys h.1 k)

pub aligned_added : (d : Division) (old new : List First) (f : First) → new ≡ old ++ f ∷ [] → All (IsAligned d) f.guards → AreAligned d old → AreAligned d new
aligned_added d old new f e h k = subst (AreAligned d) (sym e) (aligned_append d old (f ∷ []) k (h, tt))

pub fits_as : (d : Division) (range : NRange) (cuts : List Lin) (areas : List Area) → d.range ≡ range → d.cuts ≡ cuts → All (Fits range cuts) areas → All (Fits d.range d.cuts) areas
fits_as d range cuts areas e f h = subst (λ r. All (Fits r d.cuts) areas) (sym e) (subst (λ l. All (Fits range l) areas) (sym f) h)

pub all_small : (range : NRange) (cuts : List Lin) (areas : List Area) → All (Fits range cuts) areas → All IsSmallArea areas
all_small range cuts areas h = λ i d lt. fits_small range cuts _ (h i d lt)

kind_bools : (a b h g l : Bool) → b ≡ a || h → h || g ≡ l → b || g ≡ a || l
kind_bools a b h g l e f = grind (arith, nat_tests)

pub kind_added : (roles : List CoreRole) (areas : List Area) (entries rest others : List Entry) (first : Entry) (kind : FirstKind) (n : ℤ) (role : ℕ) (x : ℤ) (o : Outcome) (a b : Bool) → entries ≡ first ∷ rest →
    outcome_at roles kind n x ≡ outcome_of roles first.kind n x →
    (have areas n role x && outcome_eq (outcome_of roles first.kind n x) o) || finds roles others n role x o ≡ finds roles (first ∷ rest) n role x o →
    b ≡ a || (have areas n role x && outcome_eq (outcome_at roles kind n x) o) →
    b || finds roles others n role x o ≡ a || finds roles entries n role x o
kind_added roles areas entries rest others first kind n role x o a b e k s t =
    kind_bools a b (have areas n role x && outcome_eq (outcome_of roles first.kind n x) o) (finds roles others n role x o) (finds roles (first ∷ rest) n role x o)
    (t ∙ ap (λ z. a || (have areas n role x && outcome_eq z o)) k) s
    ∙ ap (λ z. a || finds roles z n role x o) (sym e)

-- ---- no entry finds nothing

kind_not : (roles : List CoreRole) (kind : Kind) (n x : ℤ) → outcome_eq (outcome_of roles kind n x) nothing_first ≡ false
kind_not roles (Receive s l) n x = refl
kind_not roles Other n x = refl
kind_not roles Again n x = refl

and_false : (h e g : Bool) → e ≡ false → g ≡ false → (h && e) || g ≡ false
and_false h e g k l = grind (arith, nat_tests)

finds_some : (roles : List CoreRole) (entries : List Entry) (n : ℤ) (role : ℕ) (x : ℤ) → finds roles entries n role x nothing_first ≡ false
finds_some roles [] n role x = refl
finds_some roles (f ∷ fs) n role x = and_false (has f.area n role x) _ _ (kind_not roles f.kind n x) (finds_some roles fs n role x)

true_nothing : (a h b i : Bool) → a ≡ false → h ≡ i → b ≡ a || (h && true) → b ≡ i
true_nothing a h b i k l e = grind (arith, nat_tests)

true_some : (a h b i : Bool) → a ≡ i → b ≡ a || (h && false) → b ≡ i
true_some a h b i k e = grind (arith, nat_tests)

-- what is found at all: what the entries find, and nothing where the areas say so
pub whole : (roles : List CoreRole) (entries : List Entry) (passed : List Area) (n : ℤ) (role : ℕ) (x : ℤ) (o : Outcome) (old new : Bool) (is : Outcome → Bool) →
    old ≡ finds roles entries n role x o → (is_nothing o ≡ false → finds roles entries n role x o ≡ is o) → have passed n role x ≡ is nothing_first →
    new ≡ old || (have passed n role x && outcome_eq nothing_first o) → new ≡ is o
whole roles entries passed n role x nothing_first old new is e f g h = true_nothing old (have passed n role x) new (is nothing_first) (e ∙ finds_some roles entries n role x) g h
whole roles entries passed n role x (receives s l) old new is e f g h = true_some old (have passed n role x) new (is (receives s l)) (e ∙ f refl) h
whole roles entries passed n role x other_first old new is e f g h = true_some old (have passed n role x) new (is other_first) (e ∙ f refl) h
whole roles entries passed n role x again_first old new is e f g h = true_some old (have passed n role x) new (is again_first) (e ∙ f refl) h

-- ---- kinds one after the other

pub told_start : (roles : List CoreRole) (list : List First) (entries : List Entry) (n : ℤ) (role : ℕ) (x : ℤ) (o : Outcome) → list ≡ [] → answers roles list n role x o || finds roles entries n role x o ≡ finds roles entries n role x o
told_start roles list entries n role x o e = ap (λ z. answers roles z n role x o || finds roles entries n role x o) e

pub told_step : (roles : List CoreRole) (left deref : List Entry) (a t l : Bool) (n : ℤ) (role : ℕ) (x : ℤ) (o : Outcome) → deref ≡ left → t ≡ a || finds roles deref n role x o → a || finds roles left n role x o ≡ l → t ≡ l
told_step roles left deref a t l n role x o e h k = h ∙ ap (λ z. a || finds roles z n role x o) e ∙ k

none_left : (left : List Entry) → length left ≡ 0 → left ≡ []
none_left [] e = refl
none_left (f ∷ fs) e = absurd (omega (arith, e))

pub told_end : (roles : List CoreRole) (left : List Entry) (a l : Bool) (n : ℤ) (role : ℕ) (x : ℤ) (o : Outcome) → length left ≡ 0 → a || finds roles left n role x o ≡ l → a ≡ l
told_end roles left a l n role x o e k = or_false a ∙ ap (λ z. a || finds roles z n role x o) (sym (none_left left e)) ∙ k

pub zero_is : (n : ℕ) → (n == 0) ≡ true → n ≡ 0
zero_is n e = grind (arith, nat_tests)
