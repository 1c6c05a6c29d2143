-- Entries behind the last one of a list, or put together with it.
use Rattle.std.proofs.Common.{◌≡◌, ℕ, ℤ, Bool, true, false, ◌||◌, if◌then◌else◌, List, [], ◌∷◌, ◌++◌, refl, ap, sym, ◌∙◌, subst}
use Rattle.std.proofs.lemmas.Bool.{and_parts, and_from}
use Rattle.pb_affine.specs.declared.lin.Lin.{Lin}
use Rattle.pb_affine.specs.declared.range.NRange.{NRange}
use Rattle.pb_core_language.specs.declared.protocol.CoreRole.{CoreRole}
use Rattle.pb_core_language.specs.Outcomes.{Outcome, nothing_first, receives, other_first, again_first, or_then}
use Rattle.pb_core_flat.specs.OutcomeSets.{is_nothing}
use Rattle.pb_core_flat.proofs.OutcomeSets.{or_then_assoc, or_then_left}
use Rattle.pb_part_areas.specs.declared.area.Area.{Area}
use Rattle.pb_part_areas.specs.Areas.{has}
use Rattle.pb_part_areas.specs.Fits.{Fits}
use Rattle.pb_part_firsts.specs.declared.firsts.Entry.{Entry}
use Rattle.pb_part_firsts.specs.Firsts.{outcome_of, is_small_kind, are_small}
use Rattle.pb_part_firsts.specs.Fitting.{EntriesFit}
use Rattle.pb_part_firsts.specs.Turns.{first_stop}
use Rattle.pb_part_firsts.proofs.Outcomes.{kind_some}
use Rattle.pb_part_firsts.proofs.Turning.{stop_pushed}

-- ---- two stops with the same outcome in one area

either_one : (a b : Bool) (o : Outcome) → is_nothing o ≡ false →
    or_then (if a then o ∷ [] else nothing_first ∷ []) (if b then o ∷ [] else nothing_first ∷ []) ≡ (if a || b then o ∷ [] else nothing_first ∷ [])
either_one false b o h = or_then_left (if b then o ∷ [] else nothing_first ∷ [])
either_one true b nothing_first h = absurd cc
either_one true b (receives s l) h = refl
either_one true b other_first h = refl
either_one true b again_first h = refl

pub stop_widened : (roles : List CoreRole) (old new : List Entry) (last next : Entry) (m : Area) (n : ℤ) (role : ℕ) (x : ℤ) → last.kind ≡ next.kind →
    has m n role x ≡ has last.area n role x || has next.area n role x → new ≡ old ++ record { area = m; kind = next.kind } ∷ [] →
    first_stop roles new n role x ≡ or_then (first_stop roles (old ++ last ∷ []) n role x) (if has next.area n role x then outcome_of roles next.kind n x ∷ [] else nothing_first ∷ [])
stop_widened roles old new last next m n role x same union e =
    let before : List Outcome = first_stop roles old n role x in
    let o : Outcome = outcome_of roles next.kind n x in
    let a : Bool = has last.area n role x in
    let b : Bool = has next.area n role x in
    stop_pushed roles old new m next.kind n role x e
    ∙ ap (λ t. or_then before (if t then o ∷ [] else nothing_first ∷ [])) union
    ∙ ap (or_then before) (sym (either_one a b o (kind_some roles next.kind n x)))
    ∙ sym (or_then_assoc before (if a then o ∷ [] else nothing_first ∷ []) (if b then o ∷ [] else nothing_first ∷ []))
    ∙ ap (λ z. or_then z (if b then o ∷ [] else nothing_first ∷ []))
    (ap (λ k. or_then before (if a then outcome_of roles k n x ∷ [] else nothing_first ∷ [])) (sym same)
    ∙ sym (stop_pushed roles old (old ++ last ∷ []) last.area last.kind n role x refl))

-- ---- the last one

small_parts : (xs ys : List Entry) → are_small (xs ++ ys) ≡ true → (are_small xs ≡ true) × (are_small ys ≡ true)
small_parts [] ys h = (refl, h)
small_parts (f ∷ xs) ys h =
    let hs = and_parts (is_small_kind f.kind) (are_small (xs ++ ys)) h in
    let rest = small_parts xs ys hs.1 in
    (and_from (is_small_kind f.kind) (are_small xs) hs.0 rest.0, rest.1)

pub rest_small : (old rest : List Entry) (last : Entry) → old ≡ rest ++ last ∷ [] → are_small old ≡ true → are_small rest ≡ true
rest_small old rest last e h = (small_parts rest (last ∷ []) (ap are_small (sym e) ∙ h)).0

pub last_small : (old rest : List Entry) (last : Entry) → old ≡ rest ++ last ∷ [] → are_small old ≡ true → is_small_kind last.kind ≡ true
last_small old rest last e h = (and_parts (is_small_kind last.kind) true (small_parts rest (last ∷ []) (ap are_small (sym e) ∙ h)).1).0

fit_parts : (range : NRange) (cuts : List Lin) (xs ys : List Entry) → EntriesFit range cuts (xs ++ ys) → EntriesFit range cuts xs × EntriesFit range cuts ys
fit_parts range cuts [] ys h = (tt, h)
fit_parts range cuts (f ∷ xs) ys h = let rest = fit_parts range cuts xs ys h.1 in ((h.0, rest.0), rest.1)

pub rest_fits : (range : NRange) (cuts : List Lin) (old rest : List Entry) (last : Entry) → old ≡ rest ++ last ∷ [] → EntriesFit range cuts old → EntriesFit range cuts rest
rest_fits range cuts old rest last e h = (fit_parts range cuts rest (last ∷ []) (subst (EntriesFit range cuts) e h)).0

pub last_fits : (range : NRange) (cuts : List Lin) (old rest : List Entry) (last : Entry) → old ≡ rest ++ last ∷ [] → EntriesFit range cuts old → Fits range cuts last.area
last_fits range cuts old rest last e h = (fit_parts range cuts rest (last ∷ []) (subst (EntriesFit range cuts) e h)).1.0
