-- What the ranks at ends that stay find first in a foreach, at the first value of its variable.
use Rattle.std.proofs.Common.{◌≡◌, ◌<◌, ◌≤◌, ◌+◌, ℕ, ℤ, pos, ◌+ℤ◌, int_le, nat_eq, Bool, true, false, not, ◌||◌, ◌&&◌, if◌then◌else◌, Option, Some, None, List, [], ◌∷◌, map, drop, length, get_or, refl, ap, ap₂, sym, ◌∙◌, arith, drop_of_length-le}
use Rattle.std.specs.Ordering.{int_eq}
use Rattle.std.proofs.lemmas.Bool.{false≢true}
use Rattle.std.proofs.lemmas.Bool.Decides.{nat_tests}
use Rattle.std.proofs.lemmas.List.{at_drop_more}
use Rattle.std.proofs.Math.Bool.{and-false}
use Rattle.pb_affine.specs.declared.lin.Base.{Base}
use Rattle.pb_affine.specs.declared.lin.Base.TheVariants.{Fixed, Param, Var}
use Rattle.pb_affine.specs.declared.lin.Lin.{Lin}
use Rattle.pb_affine.specs.declared.range.NRange.{NRange}
use Rattle.pb_affine.specs.Values.{base_value, value}
use Rattle.pb_core_language.specs.declared.protocol.CoreRole.{CoreRole}
use Rattle.pb_core_language.specs.declared.tree.CoreEnd.{CoreEnd}
use Rattle.pb_core_language.specs.Outcomes.{Outcome, nothing_first, receives, other_first, again_first, or_then}
use Rattle.pb_core_flat.specs.Meets.{is_var, is_moving}
use Rattle.pb_core_flat.specs.OutcomeSets.{is_nothing, found}
use Rattle.pb_core_flat.specs.Seated.{is_at}
use Rattle.pb_core_flat.specs.Stops as S
use Rattle.pb_core_flat.specs.Stops.{Stop, first_of, at_fixed, at_value, has_fixed, outcome_at}
use Rattle.pb_core_flat.proofs.OutcomeSets.{or_then_assoc, or_then_left, or_then_right}
use Rattle.pb_core_flat.proofs.Turns.{finding_is}
use Rattle.pb_part_areas.specs.Areas.{at}
use Rattle.pb_part_visits.specs.declared.visit.Visit.{Visit}
use Rattle.pb_part_visits.specs.Visits.{visit_of}
use Rattle.pb_part_visits.proofs.VisitLists.{blank}
use Rattle.pb_part_firsts.specs.declared.firsts.Entry.{Entry}
use Rattle.pb_part_firsts.specs.Turns.{AddsStops, first_stop}
use Rattle.pb_part_firsts.proofs.EachSteps.{found_at}

-- ---- ends that stay

base_stays : (base : Base) (off n i j x : ℤ) → is_var base ≡ false → int_eq (off +ℤ base_value base n i) x ≡ int_eq (off +ℤ base_value base n j) x
base_stays Fixed off n i j x h = refl
base_stays Param off n i j x h = refl
base_stays Var off n i j x h = absurd (false≢true (sym h))

end_stays : (e : CoreEnd) (n i j : ℤ) (role : ℕ) (x : ℤ) → is_moving e ≡ false → is_at e n i role x ≡ is_at e n j role x
end_stays e n i j role x h = ap (λ t. nat_eq e.role role && t) (base_stays e.at.base e.at.off n i j x h)

-- ---- the ranks of one end that stays, at each end in order

-- the ranks at this end that are at the visit's end too, at the first value
abbrev pub at_both : List CoreRole → CoreEnd → ℤ → ℤ → ℤ → S.Visit → Stop
at_both roles e n low high v = record {
  has = λ role x. (int_le low high && is_at e n (pos 0) role x) && is_at v.end n low role x;
  finds = λ x. outcome_at roles n low v.finding;
}

pub both_some : (roles : List CoreRole) (e : CoreEnd) (n low high x : ℤ) (v : S.Visit) → is_nothing ((at_both roles e n low high v).finds x) ≡ false
both_some roles e n low high x v = finding_is roles n low v.finding

both_step : (g a : Bool) (o : Outcome) (p q : Option Outcome) → p ≡ (if g then q else None) → (if g && a then Some o else p) ≡ (if g then (if a then Some o else q) else None)
both_step false a o p q h = h
both_step true true o p q h = refl
both_step true false o p q h = h

either_way : (g : Bool) (o : Option Outcome) → o ≡ (if g then o else o)
either_way true o = refl
either_way false o = refl

both_of : (roles : List CoreRole) (e : CoreEnd) (n low high : ℤ) (role : ℕ) (x : ℤ) (vs : List S.Visit) →
    first_of (map (at_both roles e n low high) vs) role x ≡ (if int_le low high && is_at e n (pos 0) role x then first_of (map (at_value roles n low) vs) role x else None)
both_of roles e n low high role x [] = either_way (int_le low high && is_at e n (pos 0) role x) None
both_of roles e n low high role x (v ∷ vs) =
    both_step (int_le low high && is_at e n (pos 0) role x) (is_at v.end n low role x) (outcome_at roles n low v.finding)
    (first_of (map (at_both roles e n low high) vs) role x) (first_of (map (at_value roles n low) vs) role x) (both_of roles e n low high role x vs)

found_if : (g : Bool) (o : Option Outcome) → found (if g then o else None) ∷ [] ≡ (if g then found o ∷ [] else nothing_first ∷ [])
found_if true o = refl
found_if false o = refl

pub both_found : (roles : List CoreRole) (e : CoreEnd) (n low high : ℤ) (role : ℕ) (x : ℤ) (list : List Visit) →
    found_at (at_both roles e n low high) list role x ≡ (if int_le low high && is_at e n (pos 0) role x then found (first_of (map (at_value roles n low) (map visit_of list)) role x) ∷ [] else nothing_first ∷ [])
both_found roles e n low high role x list =
    ap (λ z. found z ∷ []) (both_of roles e n low high role x (map visit_of list))
    ∙ found_if (int_le low high && is_at e n (pos 0) role x) (first_of (map (at_value roles n low) (map visit_of list)) role x)

-- who is at the end is at the visit's, where both are the same
same_end : (e f : CoreEnd) (n low : ℤ) (role : ℕ) (x : ℤ) → is_moving e ≡ false → f.role ≡ e.role → f.at ≡ e.at → is_at f n low role x ≡ is_at e n (pos 0) role x
same_end e f n low role x m r a =
    ap₂ (λ y z. nat_eq y role && int_eq (value z n low) x) r a ∙ end_stays e n low (pos 0) role x m

cut_by : (g a t : Bool) (before now rest : List Outcome) (o : Outcome) (other : Option Outcome) → is_nothing o ≡ false → a ≡ t → rest ≡ (if g && t then found other ∷ [] else nothing_first ∷ []) →
    now ≡ or_then before (if (g && t) && a then o ∷ [] else nothing_first ∷ []) → or_then now rest ≡ now
cut_by false a t before now rest o other some same r e = ap (or_then now) r ∙ or_then_right now
cut_by true a false before now rest o other some same r e = ap (or_then now) r ∙ or_then_right now
cut_by true a true before now rest o other some same r e =
    let is : now ≡ or_then before (o ∷ []) = e ∙ ap (λ t. or_then before (if t then o ∷ [] else nothing_first ∷ [])) same in
    ap (λ z. or_then z rest) is ∙ or_then_assoc before (o ∷ []) rest ∙ ap (or_then before) (stays o some) ∙ sym is where
      stays : (q : Outcome) → is_nothing q ≡ false → or_then (q ∷ []) rest ≡ q ∷ []
      stays nothing_first h = absurd (false≢true (sym h))
      stays (receives s l) h = refl
      stays other_first h = refl
      stays again_first h = refl

-- nobody is left behind a visit at the same end
pub both_cut : (roles : List CoreRole) (e : CoreEnd) (list : List Visit) (i : ℕ) (old new : List Entry) (p : Bool) (o : Outcome) (n low high : ℤ) (role : ℕ) (x : ℤ) (all : List Outcome) →
    is_moving e ≡ false → (get_or list i blank).end.role ≡ e.role → (get_or list i blank).end.at ≡ e.at →
    first_stop roles new n role x ≡ or_then (first_stop roles old n role x) (if p then o ∷ [] else nothing_first ∷ []) →
    p ≡ (at_both roles e n low high (visit_of (get_or list i blank))).has role x → o ≡ (at_both roles e n low high (visit_of (get_or list i blank))).finds x →
    or_then (first_stop roles new n role x) (found_at (at_both roles e n low high) (drop (i + 1) list) role x) ≡ all →
    first_stop roles new n role x ≡ all
both_cut roles e list i old new p o n low high role x all m sr sa adds has finds h =
    let one : S.Visit = visit_of (get_or list i blank) in
    sym (cut_by (int_le low high) (is_at one.end n low role x) (is_at e n (pos 0) role x) (first_stop roles old n role x) (first_stop roles new n role x)
    (found_at (at_both roles e n low high) (drop (i + 1) list) role x) (outcome_at roles n low one.finding) (first_of (map (at_value roles n low) (map visit_of (drop (i + 1) list))) role x)
    (finding_is roles n low one.finding) (same_end e one.end n low role x m sr sa) (both_found roles e n low high role x (drop (i + 1) list))
    (adds ∙ ap₂ (λ t q. or_then (first_stop roles old n role x) (if t then q ∷ [] else nothing_first ∷ [])) has finds))
    ∙ h

-- ---- the ranks of all ends that stay

-- what they find at the first value
abbrev pub fixed_found : List CoreRole → ℤ → ℤ → ℤ → List S.Visit → List S.Visit → ℕ → ℤ → List Outcome
fixed_found roles n low high some all role x = if int_le low high && has_fixed roles n some role x then found (first_of (map (at_value roles n low) all) role x) ∷ [] else nothing_first ∷ []

either_same : (a b : Bool) (o : Outcome) → or_then (if a then o ∷ [] else nothing_first ∷ []) (if b then o ∷ [] else nothing_first ∷ []) ≡ (if a || b then o ∷ [] else nothing_first ∷ [])
either_same false b o = or_then_left (if b then o ∷ [] else nothing_first ∷ [])
either_same true true nothing_first = refl
either_same true false nothing_first = refl
either_same true b (receives s l) = refl
either_same true b other_first = refl
either_same true b again_first = refl

fixed_here : (g t a h : Bool) → t ≡ false → g && ((not t && a) || h) ≡ (g && a) || (g && h)
fixed_here g t a h e = grind (arith, nat_tests)

-- an end that stays
pub fixed_step : (roles : List CoreRole) (all : List S.Visit) (list : List Visit) (i : ℕ) (before now : List Outcome) (n low high : ℤ) (role : ℕ) (x : ℤ) (whole : List Outcome) →
    i < length list → is_moving (get_or list i blank).end ≡ false →
    now ≡ or_then before (if int_le low high && is_at (get_or list i blank).end n (pos 0) role x then found (first_of (map (at_value roles n low) all) role x) ∷ [] else nothing_first ∷ []) →
    or_then before (fixed_found roles n low high (map visit_of (drop i list)) all role x) ≡ whole →
    or_then now (fixed_found roles n low high (map visit_of (drop (i + 1) list)) all role x) ≡ whole
fixed_step roles all list i before now n low high role x whole lt m adds h =
    let o : Outcome = found (first_of (map (at_value roles n low) all) role x) in
    let one : Visit = get_or list i blank in
    let here : Bool = is_at one.end n (pos 0) role x in
    let rest : Bool = has_fixed roles n (map visit_of (drop (i + 1) list)) role x in
    let g : Bool = int_le low high in
    ap (λ z. or_then z (if g && rest then o ∷ [] else nothing_first ∷ [])) adds
    ∙ or_then_assoc before (if g && here then o ∷ [] else nothing_first ∷ []) (if g && rest then o ∷ [] else nothing_first ∷ [])
    ∙ ap (or_then before)
    (either_same (g && here) (g && rest) o
    ∙ ap (λ t. if t then o ∷ [] else nothing_first ∷ []) (sym (fixed_here g (is_moving one.end) here rest m))
    ∙ sym (at_drop_more (λ z. fixed_found roles n low high (map visit_of z) all role x) list i blank lt))
    ∙ h

moving_here : (g t a h : Bool) → t ≡ true → g && ((not t && a) || h) ≡ g && h
moving_here g t a h e = grind (arith, nat_tests)

-- an end that moves
pub moving_step : (roles : List CoreRole) (all : List S.Visit) (list : List Visit) (i : ℕ) (before : List Outcome) (n low high : ℤ) (role : ℕ) (x : ℤ) (whole : List Outcome) →
    i < length list → is_moving (get_or list i blank).end ≡ true →
    or_then before (fixed_found roles n low high (map visit_of (drop i list)) all role x) ≡ whole →
    or_then before (fixed_found roles n low high (map visit_of (drop (i + 1) list)) all role x) ≡ whole
moving_step roles all list i before n low high role x whole lt m h =
    let o : Outcome = found (first_of (map (at_value roles n low) all) role x) in
    let one : Visit = get_or list i blank in
    let rest : Bool = has_fixed roles n (map visit_of (drop (i + 1) list)) role x in
    ap (or_then before)
    (ap (λ t. if t then o ∷ [] else nothing_first ∷ []) (sym (moving_here (int_le low high) (is_moving one.end) (is_at one.end n (pos 0) role x) rest m))
    ∙ sym (at_drop_more (λ z. fixed_found roles n low high (map visit_of z) all role x) list i blank lt))
    ∙ h

pub fixed_done : (roles : List CoreRole) (all : List S.Visit) (list : List Visit) (i : ℕ) (now : List Outcome) (n low high : ℤ) (role : ℕ) (x : ℤ) (whole : List Outcome) → length list ≤ i →
    or_then now (fixed_found roles n low high (map visit_of (drop i list)) all role x) ≡ whole → now ≡ whole
fixed_done roles all list i now n low high role x whole le h =
    let o : Outcome = found (first_of (map (at_value roles n low) all) role x) in
    sym (or_then_right now)
    ∙ ap (or_then now) (ap (λ t. if t then o ∷ [] else nothing_first ∷ []) (sym (and-false (int_le low high))))
    ∙ sym (ap (λ z. or_then now (fixed_found roles n low high (map visit_of z) all role x)) (drop_of_length-le list le))
    ∙ h

-- ---- the same as stops

as_step : (g a a0 m h : Bool) (o : Outcome) (p q : Option Outcome) → (m ≡ false → a ≡ a0) → (h ≡ false → not m && a0 ≡ false) → p ≡ (if g && h then q else None) →
    (if g && (a && (not m || h)) then Some o else p) ≡ (if g && h then (if a then Some o else q) else None)
as_step false a a0 m h o p q s z e = e
as_step true false a0 m h o p q s z e = e
as_step true true a0 true true o p q s z e = refl
as_step true true a0 false true o p q s z e = refl
as_step true true a0 true false o p q s z e = e
as_step true true a0 false false o p q s z e = absurd (false≢true (sym (z refl) ∙ sym (s refl)))

either_none : (a b h : Bool) → (h ≡ false → a || b ≡ false) → (h ≡ false → a ≡ false) × (h ≡ false → b ≡ false)
either_none false b h e = (λ k. refl, e)
either_none true b h e = (λ k. absurd (false≢true (sym (e k))), λ k. absurd (false≢true (sym (e k))))

fixed_as : (roles : List CoreRole) (n low high : ℤ) (role : ℕ) (x : ℤ) (vs : List S.Visit) (h : Bool) → has_fixed roles n vs role x ≡ h →
    (ws : List S.Visit) → (h ≡ false → has_fixed roles n ws role x ≡ false) →
    first_of (map (at_fixed roles n low high vs) ws) role x ≡ (if int_le low high && h then first_of (map (at_value roles n low) ws) role x else None)
fixed_as roles n low high role x vs h is [] k = either_way (int_le low high && h) None
fixed_as roles n low high role x vs h is (w ∷ ws) k =
    let both = either_none (not (is_moving w.end) && is_at w.end n (pos 0) role x) (has_fixed roles n ws role x) h k in
    let rest : Option Outcome = first_of (map (at_fixed roles n low high vs) ws) role x in
    ap (λ z. if int_le low high && (is_at w.end n low role x && (not (is_moving w.end) || z)) then Some (outcome_at roles n low w.finding) else rest) is
    ∙ as_step (int_le low high) (is_at w.end n low role x) (is_at w.end n (pos 0) role x) (is_moving w.end) h (outcome_at roles n low w.finding)
    rest (first_of (map (at_value roles n low) ws) role x) (end_stays w.end n low (pos 0) role x) both.0 (fixed_as roles n low high role x vs h is ws both.1)

pub fixed_is : (roles : List CoreRole) (n low high : ℤ) (role : ℕ) (x : ℤ) (vs : List S.Visit) →
    fixed_found roles n low high vs vs role x ≡ found (first_of (map (at_fixed roles n low high vs) vs) role x) ∷ []
fixed_is roles n low high role x vs =
    sym (ap (λ z. found z ∷ []) (fixed_as roles n low high role x vs (has_fixed roles n vs role x) refl vs (λ e. e))
    ∙ found_if (int_le low high && has_fixed roles n vs role x) (first_of (map (at_value roles n low) vs) role x))

-- another list of ends, with the same ranks at ends that stay and the same first findings
fixed_alike : (roles : List CoreRole) (n low high : ℤ) (role : ℕ) (x : ℤ) (ws vs : List S.Visit) →
    first_of (map (at_value roles n low) ws) role x ≡ first_of (map (at_value roles n low) vs) role x → has_fixed roles n ws role x ≡ has_fixed roles n vs role x →
    found (first_of (map (at_fixed roles n low high ws) ws) role x) ∷ [] ≡ found (first_of (map (at_fixed roles n low high vs) vs) role x) ∷ []
fixed_alike roles n low high role x ws vs same fixed =
    sym (fixed_is roles n low high role x ws)
    ∙ ap₂ (λ o t. if int_le low high && t then found o ∷ [] else nothing_first ∷ []) same fixed
    ∙ fixed_is roles n low high role x vs

pub adds_alike : {range : NRange} {roles : List CoreRole} {old new : List Entry} (low high : Lin) (ws vs : List S.Visit) →
    ((n i : ℤ) (role : ℕ) (x : ℤ) → first_of (map (at_value roles n i) ws) role x ≡ first_of (map (at_value roles n i) vs) role x) →
    ((n : ℤ) (role : ℕ) (x : ℤ) → has_fixed roles n ws role x ≡ has_fixed roles n vs role x) →
    AddsStops range roles old new (λ n role x. found (first_of (map (at_fixed roles n (at low n) (at high n) ws) ws) role x) ∷ []) →
    AddsStops range roles old new (λ n role x. found (first_of (map (at_fixed roles n (at low n) (at high n) vs) vs) role x) ∷ [])
adds_alike {roles = roles} {old = old} low high ws vs same fixed a = record {
  is = λ n role x w r. a.is n role x w r ∙ ap (or_then (first_stop roles old n role x)) (fixed_alike roles n (at low n) (at high n) role x ws vs (same n (at low n) role x) (fixed n role x));
}
