-- Which names of columns are names, and which limits on roles are passed.
use Rattle.std.proofs.Common.{◌≡◌, ℕ, zero, suc, drop, slice_index_or, ◌+◌, ◌<◌, ◌≤◌, Bool, true, false, ◌&&◌, nat_lt, is_some, if◌then◌else◌, decimal, Option, Some, None, List, [], ◌∷◌, ◌++◌, length, refl, sym, ap, ◌∙◌, subst, arith, append_assoc, length-append}
use Rattle.std.specs.List.{slice_get}
use Rattle.std.proofs.lemmas.Bool.{ltb-false}
use Rattle.std.proofs.lemmas.Fmt.{length-decimal-le}
use Rattle.std.proofs.lemmas.Option.{slice_get_past}
use Rattle.pb_text.specs.declared.place.Place.{Place}
use Rattle.pb_text.specs.declared.place.Spot.{Spot}
use Rattle.pb_text.specs.declared.quantity.Quantity.TheVariants.{NameLength, Roles}
use Rattle.pb_syntax.specs.declared.tree.RoleText.{RoleText}
use Rattle.pb_strips_syntax.specs.declared.tree.StripRole.{StripRole}
use Rattle.pb_syntax.specs.declared.tree.RangeText.{RangeText}
use Rattle.pb_strips_syntax.specs.Columns.{column_name, numbers}
use Rattle.pb_strips_syntax.specs.Flattening.{column_spot, column_roles, flat_roles}
use Rattle.pb_strips_flatten.proofs.Walking.{slice_get_first, slice_get_behind}
use Rattle.pb_strips_flatten.proofs.Unrolled.{first_number}
use Rattle.pb_strips_flatten.specs.declared.stop.Stop.{Stop}
use Rattle.pb_strips_flatten.specs.declared.stop.Stop.TheVariants.{TooMany, Unnamed, NoMemory}
use Rattle.pb_strips_flatten.specs.Ends.{SpotStops}
use Rattle.pb_strips_flatten.specs.Excess.{first_of, passing, is_long, first_long, places_of}
use Rattle.pb_strips_flatten.specs.Halts.{IsNarrow, AreNarrow, role_excess}
use Rattle.pb_strips_flatten.specs.RoleEnds.{Fit, ColumnsFit, RolesFit, RolesStop}

-- ---- names

pub is_name : (strip : List ℕ) (c : ℕ) → length strip ≤ 60 → c ≤ 63 → length (column_name strip c) ≤ 64
is_name strip c short narrow =
    let digits : length (decimal c) ≤ 2 = length-decimal-le 2 c (omega arith) (omega (arith, narrow)) (omega (arith, narrow)) in
    let all : length (strip ++ 95 ∷ decimal c) ≡ length strip + length (95 ∷ decimal c) = length-append strip (95 ∷ decimal c) in
    omega (arith, digits, all, short)

pub spot_stops : (s : Stop) (strip : Spot) (c high : ℕ) (part before : List RoleText) → c ≤ high → SpotStops s strip c → RolesStop s part (Fit strip high) before
spot_stops (TooMany p) strip c high part before h e = absurd e
spot_stops Unnamed strip c high part before h e = λ fit. absurd (omega (arith, e, is_name strip.name c fit.short (omega (arith, h, fit.narrow))))
spot_stops NoMemory strip c high part before h e = tt

-- ---- a walk over roles

places_length : (roles : List RoleText) → length (places_of roles) ≡ length roles
places_length [] = refl
places_length (r ∷ rs) = ap suc (places_length rs)

places_of_both : (a b : List RoleText) → places_of (a ++ b) ≡ places_of a ++ places_of b
places_of_both [] b = refl
places_of_both (r ∷ a) b = ap (λ (l : List Place). r.role.place ∷ l) (places_of_both a b)

pub one_too_many : (list : List RoleText) (r : RoleText) → length list ≡ 64 → slice_get (places_of (list ++ r ∷ [])) 64 ≡ Some r.role.place
one_too_many list r e =
    let all : 64 ≡ length (places_of list) + 0 = omega (arith, e, places_length list) in
    ap (λ (l : List Place). slice_get l 64) (places_of_both list (r ∷ []))
    ∙ ap (λ (n : ℕ). slice_get (places_of list ++ r.role.place ∷ []) n) all
    ∙ slice_get_behind (places_of list) (r.role.place ∷ []) 0

pub roles_stop : (s : Stop) (old whole now rest part left : List RoleText) (Whole One : Type 0) → rest ≡ part ++ left → now ++ rest ≡ old ++ whole → (Whole → One) →
    RolesStop s part One now → RolesStop s whole Whole old
roles_stop (TooMany p) old whole now rest part left Whole One e f fits h =
    let all : (now ++ part) ++ left ≡ old ++ whole = append_assoc now part left ∙ ap (λ (l : List RoleText). now ++ l) (sym e) ∙ f in
    ap (λ (l : List RoleText). slice_get (places_of l) 64) (sym all)
    ∙ ap (λ (l : List Place). slice_get l 64) (places_of_both (now ++ part) left)
    ∙ slice_get_first (places_of (now ++ part)) (places_of left) 64 p h
roles_stop Unnamed old whole now rest part left Whole One e f fits h = λ w. h (fits w)
roles_stop NoMemory old whole now rest part left Whole One e f fits h = tt

pub roles_go_on : (old whole now next rest part left : List RoleText) → rest ≡ part ++ left → next ≡ now ++ part → now ++ rest ≡ old ++ whole → next ++ left ≡ old ++ whole
roles_go_on old whole now next rest part left e n f =
    ap (λ (l : List RoleText). l ++ left) n ∙ append_assoc now part left ∙ ap (λ (l : List RoleText). now ++ l) (sym e) ∙ f

-- ---- what is left

role_left : (roles : List StripRole) (i : ℕ) (r : StripRole) → i < length roles → r ≡ slice_index_or roles i r → drop i roles ≡ r ∷ drop (suc i) roles
role_left [] i r h e = absurd (omega (arith, h))
role_left (x ∷ xs) zero r h e = ap (λ (y : StripRole). y ∷ xs) (sym e)
role_left (x ∷ xs) (suc i) r h e = role_left xs i r (omega (arith, h)) e

pub role_unrolled : (roles : List StripRole) (i : ℕ) (r : StripRole) → i < length roles → r ≡ slice_index_or roles i r → drop i roles ≡ r ∷ drop (i + 1) roles
role_unrolled roles i r h e =
    let one : suc i ≡ i + 1 = omega arith in
    subst (λ (n : ℕ). drop i roles ≡ r ∷ drop n roles) one (role_left roles i r h e)

pub column_unrolled : (strip : Spot) (rows : Option RangeText) (c high : ℕ) → c ≤ high →
    column_roles strip rows (numbers c high) ≡ (record { role = column_spot strip c; range = rows } ∷ []) ++ column_roles strip rows (numbers (c + 1) high)
column_unrolled strip rows c high h = ap (λ (cs : List ℕ). column_roles strip rows cs) (first_number c high h)

-- ---- limits

not_long : (b : Bool) (p : Place) (other : Option Place) → (if b then Some p else other) ≡ None → (b ≡ false) × (other ≡ None)
not_long true p other e = cc
not_long false p other e = (refl, e)

role_fits : (role : Spot) (ends : Option (ℕ × ℕ)) → (is_some ends && nat_lt 60 (length role.name)) ≡ false → IsNarrow ends → ColumnsFit role ends
role_fits role None e h = tt
role_fits role (Some ends) e h = record { short = ltb-false 60 (length role.name) e; narrow = h }

pub roles_fit : (roles : List StripRole) → first_long roles ≡ None → AreNarrow roles → RolesFit roles
roles_fit [] e h = tt
roles_fit (r ∷ rs) e h =
    let both = not_long (is_long r) r.role.place (first_long rs) e in
    (role_fits r.role r.columns both.0 h.0, roles_fit rs both.1 h.1)

pub no_excess : (roles : List StripRole) (list : List RoleText) → first_long roles ≡ None → list ≡ flat_roles roles → length list ≤ 64 → role_excess roles ≡ None
no_excess roles list e f few =
    let past : slice_get (places_of (flat_roles roles)) 64 ≡ None = subst (λ (l : List RoleText). slice_get (places_of l) 64 ≡ None) f (slice_get_past (places_of list) 64 (omega (arith, few, places_length list))) in
    ap (λ (o : Option Place). first_of (passing NameLength o) (passing Roles (slice_get (places_of (flat_roles roles)) 64))) e
    ∙ ap (λ (o : Option Place). passing Roles o) past
