-- The ends without those that stood before.
use Rattle.std.proofs.Common.{◌≡◌, ◌≤◌, ◌<◌, ℕ, ℤ, zero, suc, ◌+◌, Bool, true, false, ◌||◌, if◌then◌else◌, Option, Some, List, [], ◌∷◌, ◌++◌, map, drop, length, get_or, refl, ap, sym, ◌∙◌, append_assoc, append-nil, subst, arith, drop_of_length-le}
use Rattle.std.specs.List.{list_any}
use Rattle.std.proofs.lemmas.Bool.{false≢true, and_parts, and_from}
use Rattle.std.proofs.lemmas.List.{at_drop_more}
use Rattle.pb_affine.specs.declared.lin.Lin.{Lin}
use Rattle.pb_core_language.specs.Cuts.{end_cuts}
use Rattle.pb_core_language.specs.Outcomes.{Outcome}
use Rattle.pb_core_language.specs.declared.tree.Bounds.{Bounds}
use Rattle.pb_core_language.specs.declared.tree.CoreEnd.{CoreEnd}
use Rattle.pb_core_flat.specs.Stops as S
use Rattle.pb_core_flat.specs.Stops.{first_of}
use Rattle.pb_part_takers.specs.Pieces.{AreAmong}
use Rattle.pb_part_visits.specs.declared.visit.Visit.{Visit}
use Rattle.pb_part_visits.specs.Visits.{visit_of, is_narrow, are_narrow, VisitsAmong}
use Rattle.pb_part_visits.proofs.VisitLists.{blank, pushed}
use Rattle.pb_part_visits.proofs.EndFits.{shorter, visits_both}

-- ---- an end that is in the list

or_first : (a b : Bool) → a ≡ true → a || b ≡ true
or_first a b h = ap (λ t. t || b) h

or_later : (a b : Bool) → b ≡ true → a || b ≡ true
or_later true b h = refl
or_later false b h = h

any_at : (holds : ℕ → Lin → Bool) (list : List Visit) (i : ℕ) → i < length list → holds (get_or list i blank).end.role (get_or list i blank).end.at ≡ true →
    list_any (λ (v : S.Visit). holds v.end.role v.end.at) (map visit_of list) ≡ true
any_at holds [] i lt h = absurd (omega (arith, lt))
any_at holds (v ∷ vs) zero lt h = or_first (holds v.end.role v.end.at) (list_any (λ (w : S.Visit). holds w.end.role w.end.at) (map visit_of vs)) h
any_at holds (v ∷ vs) (suc i) lt h = or_later (holds v.end.role v.end.at) (list_any (λ (w : S.Visit). holds w.end.role w.end.at) (map visit_of vs)) (any_at holds vs i (shorter i (length vs) lt) h)

pub end_there : (holds : ℕ → Lin → Bool) (list : List Visit) (i : ℕ) (e : CoreEnd) → i < length list → (get_or list i blank).end.role ≡ e.role → (get_or list i blank).end.at ≡ e.at → holds e.role e.at ≡ true →
    list_any (λ (v : S.Visit). holds v.end.role v.end.at) (map visit_of list) ≡ true
end_there holds list i e lt role at h = any_at holds list i lt (ap (λ r. holds r (get_or list i blank).end.at) role ∙ ap (λ l. holds e.role l) at ∙ h)

-- ---- an end whose ranks are at ends before it

nobody_any : (t r : Bool) → (t ≡ true → false ≡ true) → r ≡ t || r
nobody_any true r h = absurd (false≢true (h refl))
nobody_any false r h = refl

later_any : (t p q any new : Bool) → (new ≡ true → t || any ≡ true) → ((new ≡ true → any ≡ true) → p ≡ q) → t || p ≡ t || q
later_any true p q any new h k = refl
later_any false p q any new h k = k h

pub known_any : (test : S.Visit → Bool) (v : S.Visit) (vs rest : List S.Visit) → (test v ≡ true → list_any test vs ≡ true) → list_any test (vs ++ rest) ≡ list_any test (vs ++ v ∷ rest)
known_any test v [] rest h = nobody_any (test v) (list_any test rest) h
known_any test v (w ∷ ws) rest h = later_any (test w) (list_any test (ws ++ rest)) (list_any test (ws ++ v ∷ rest)) (list_any test ws) (test v) h (known_any test v ws rest)

nobody_first : (t : Bool) (o : Outcome) (r : Option Outcome) → (t ≡ true → false ≡ true) → r ≡ (if t then Some o else r)
nobody_first true o r h = absurd (false≢true (h refl))
nobody_first false o r h = refl

later_first : (t : Bool) (o : Outcome) (p q : Option Outcome) (any new : Bool) → (new ≡ true → t || any ≡ true) → ((new ≡ true → any ≡ true) → p ≡ q) → (if t then Some o else p) ≡ (if t then Some o else q)
later_first true o p q any new h k = refl
later_first false o p q any new h k = k h

pub known_first : (stop : S.Visit → S.Stop) (role : ℕ) (x : ℤ) (v : S.Visit) (vs rest : List S.Visit) → ((stop v).has role x ≡ true → list_any (λ (w : S.Visit). (stop w).has role x) vs ≡ true) →
    first_of (map stop (vs ++ rest)) role x ≡ first_of (map stop (vs ++ v ∷ rest)) role x
known_first stop role x v [] rest h = nobody_first ((stop v).has role x) ((stop v).finds x) (first_of (map stop rest) role x) h
known_first stop role x v (w ∷ ws) rest h =
    later_first ((stop w).has role x) ((stop w).finds x) (first_of (map stop (ws ++ rest)) role x) (first_of (map stop (ws ++ v ∷ rest)) role x) (list_any (λ (u : S.Visit). (stop u).has role x) ws) ((stop v).has role x) h
    (known_first stop role x v ws rest)

-- ---- an end that is added

pub joined : (old new : List Visit) (v : Visit) (rest : List S.Visit) → new ≡ old ++ v ∷ [] → map visit_of new ++ rest ≡ map visit_of old ++ visit_of v ∷ rest
joined old new v rest e = ap (λ l. l ++ rest) (pushed old new v e) ∙ append_assoc (map visit_of old) (visit_of v ∷ []) rest

both_narrow : (xs ys : List S.Visit) → are_narrow xs ≡ true → are_narrow ys ≡ true → are_narrow (xs ++ ys) ≡ true
both_narrow [] ys h k = k
both_narrow (v ∷ xs) ys h k = let hs = and_parts (is_narrow v) (are_narrow xs) h in and_from (is_narrow v) (are_narrow (xs ++ ys)) hs.0 (both_narrow xs ys hs.1 k)

pub pushed_narrow : (old new : List Visit) (v : Visit) → new ≡ old ++ v ∷ [] → is_narrow (visit_of v) ≡ true → are_narrow (map visit_of old) ≡ true → are_narrow (map visit_of new) ≡ true
pushed_narrow old new v e h k = ap are_narrow (pushed old new v e) ∙ both_narrow (map visit_of old) (visit_of v ∷ []) k (and_from (is_narrow (visit_of v)) true h refl)

pub pushed_among : (h : Bounds) (cuts : List Lin) (old new : List Visit) (v : Visit) → new ≡ old ++ v ∷ [] → AreAmong (end_cuts (Some h) v.end) cuts → VisitsAmong h cuts (map visit_of old) → VisitsAmong h cuts (map visit_of new)
pushed_among h cuts old new v e a b = subst (VisitsAmong h cuts) (sym (pushed old new v e)) (visits_both h cuts (map visit_of old) (visit_of v ∷ []) b (a, tt))

-- ---- what holds of the ends so far and the rest

pub fresh_start : {Y : Type 0} (of : List S.Visit → Y) (list fresh : List Visit) → fresh ≡ [] → of (map visit_of fresh ++ map visit_of list) ≡ of (map visit_of list)
fresh_start of list fresh e = ap (λ l. of (map visit_of l ++ map visit_of list)) e

pub fresh_step : {Y : Type 0} (of : List S.Visit → Y) (list : List Visit) (i : ℕ) (v : Visit) (old new : List Visit) (all : Y) → i < length list →
    of (map visit_of new ++ map visit_of (drop (i + 1) list)) ≡ of (map visit_of old ++ visit_of (get_or list i v) ∷ map visit_of (drop (i + 1) list)) →
    of (map visit_of old ++ map visit_of (drop i list)) ≡ all → of (map visit_of new ++ map visit_of (drop (i + 1) list)) ≡ all
fresh_step of list i v old new all lt e h = e ∙ sym (at_drop_more (λ l. of (map visit_of old ++ map visit_of l)) list i v lt) ∙ h

pub fresh_done : {Y : Type 0} (of : List S.Visit → Y) (list : List Visit) (i : ℕ) (fresh : List Visit) (all : Y) → length list ≤ i → of (map visit_of fresh ++ map visit_of (drop i list)) ≡ all → of (map visit_of fresh) ≡ all
fresh_done of list i fresh all le h =
    ap of (sym (append-nil (map visit_of fresh))) ∙ ap (λ l. of (map visit_of fresh ++ map visit_of l)) (sym (drop_of_length-le list le)) ∙ h

pub fresh_among : (h : Bounds) (cuts : List Lin) (fresh : List Visit) → fresh ≡ [] → VisitsAmong h cuts (map visit_of fresh)
fresh_among h cuts fresh e = subst (λ l. VisitsAmong h cuts (map visit_of l)) (sym e) tt
