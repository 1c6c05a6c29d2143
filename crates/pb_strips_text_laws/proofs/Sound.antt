-- Where the strips of a file have no fault, and its flat file passes no limit, each end stands in a column from 0 to 63 of a
-- strip with a short name, in each copy of it.
use Rattle.std.proofs.Common.{◌≡◌, ℕ, zero, suc, ◌+◌, ◌-◌, ◌<◌, ◌≤◌, Bool, true, false, not, ◌||◌, ◌&&◌, nat_le, nat_lt, if◌then◌else◌, ◌⊎◌, inl, inr, is_some, Option, Some, None, List, [], ◌∷◌, ◌++◌, length, slice_get, refl, sym, ap, subst, ◌∙◌, arith}
use Rattle.std.specs.Prelude.{ℤ, pos, negsuc, ◌+ℤ◌, int_le}
use Rattle.std.proofs.Math.IntN.{+ℤ_idl}
use Rattle.std.proofs.lemmas.Bool.{and_parts, false≢true}
use Rattle.std.proofs.lemmas.Bool.Decides.{nat_tests}
use Rattle.std.proofs.lemmas.Slice.Eq.{bytes_eq-Decides}
use Rattle.pb_text.specs.declared.place.Place.{Place}
use Rattle.pb_text.specs.declared.place.Spot.{Spot}
use Rattle.pb_text.specs.declared.quantity.Quantity.{Quantity}
use Rattle.pb_text.specs.declared.quantity.Quantity.TheVariants.{NameLength, Roles, Statements}
use Rattle.pb_syntax.specs.declared.tree.RoleText.{RoleText}
use Rattle.pb_do_text_laws.proofs.Renamed.{IsWord}
use Rattle.pb_strips_syntax.specs.declared.tree.Col.{Col}
use Rattle.pb_strips_syntax.specs.declared.tree.StripRole.{StripRole}
use Rattle.pb_strips_syntax.specs.Columns.{Name, up_from, numbers, column_of}
use Rattle.pb_strips_syntax.specs.Flattening.{natural, named_column, flat_roles}
use Rattle.pb_strips_syntax.specs.Strips.{PlainStripFile}
use Rattle.pb_strips_faults.specs.declared.site.Around.{Around}
use Rattle.pb_strips_faults.specs.declared.site.EndSite.{EndSite}
use Rattle.pb_strips_faults.specs.Faults.{same, place_if, sites, is_narrow, is_wide, width, columns_at, differ, plain, unless_variable, variable_of, variable, is_within, leads_out, base_is_out, is_out, column}
use Rattle.pb_strips_faults.specs.Found.{first, HasNoFault}
use Rattle.pb_strips_flatten.specs.Excess.{Excess, first_of, passing, is_long, first_long, places_of, origins_in, roles_excess, excess_of}
use Rattle.pb_strips_text_laws.proofs.Named.{column_word}

-- ---- what is to hold of an end

abbrev pub IsIn : ℕ → List ℕ → Type 0
IsIn v [] = ⊥
IsIn v (c ∷ cs) = (c ≡ v) ⊎ IsIn v cs

-- the values that the variable of the columns around has
abbrev pub Allows : Option Around → Option ℕ → Type 0
Allows None None = Unit {0}
Allows None (Some v) = ⊥
Allows (Some around) None = ⊥
Allows (Some around) (Some v) = IsIn v (numbers around.low around.high)

abbrev pub IsShort : Spot → Option Col → Option ℕ → Type 0
IsShort role None v = Unit {0}
IsShort role (Some col) v = (length role.name ≤ 60) × (natural (column_of col v) ≤ 63)

abbrev pub IsSound : EndSite → Type 0
IsSound e = (v : Option ℕ) → Allows e.around v → IsShort e.role e.col v

abbrev pub AllSound : List EndSite → Type 0
AllSound [] = Unit {0}
AllSound (e ∷ es) = IsSound e × AllSound es

pub sound_left : (xs ys : List EndSite) → AllSound (xs ++ ys) → AllSound xs
sound_left [] ys all = tt
sound_left (x ∷ xs) ys all = (all.0, sound_left xs ys all.1)

pub sound_right : (xs ys : List EndSite) → AllSound (xs ++ ys) → AllSound ys
sound_right [] ys all = all
sound_right (x ∷ xs) ys all = sound_right xs ys all.1

pub named_word : (role : Spot) (col : Option Col) (v : Option ℕ) → IsWord role.name → IsShort role col v → IsWord (named_column role col v).name
named_word role None v is short = is
named_word role (Some col) v is short = column_word role.name (natural (column_of col v)) is short.0 short.1

-- ---- numbers

in_below : (v c n : ℕ) → IsIn v (up_from c n) → v < c + n
in_below v c zero is = absurd is
in_below v c (suc n) (inl e) = omega (arith, e)
in_below v c (suc n) (inr is) = omega (arith, in_below v (suc c) n is)

-- there are numbers only where the first is no greater than the last
in_order : (v low n : ℕ) → IsIn v (up_from low n) → 0 < n
in_order v low zero is = absurd is
in_order v low (suc n) is = omega arith

pub in_most : (v low high : ℕ) → IsIn v (numbers low high) → (low ≤ high) × (v ≤ high)
in_most v low high is =
    let some : 0 < suc high - low = in_order v low (suc high - low) is in
    let below : v < low + (suc high - low) = in_below v low (suc high - low) is in
    (omega (arith, some), omega (arith, some, below))

-- ---- no fault

abbrev pub AreNarrow : List StripRole → Type 0
AreNarrow [] = Unit {0}
AreNarrow (r ∷ rs) = ((is_wide r.columns ≡ false) × (is_long r ≡ false)) × AreNarrow rs

none_if : (t : Bool) (p : Place) (rest : List Place) → first (place_if t p ++ rest) ≡ None → (t ≡ false) × (first rest ≡ None)
none_if true p rest e = absurd (grind arith)
none_if false p rest e = (refl, e)

not_long : (r : StripRole) (rs : List StripRole) → first_long (r ∷ rs) ≡ None → (is_long r ≡ false) × (first_long rs ≡ None)
not_long r rs e = by (is_long r) refl e
  where
    by : (b : Bool) → is_long r ≡ b → (if b then Some r.role.place else first_long rs) ≡ None → (is_long r ≡ false) × (first_long rs ≡ None)
    by true h f = absurd (grind arith)
    by false h f = (h, f)

are_narrow : (rs : List StripRole) → first (width rs) ≡ None → first_long rs ≡ None → AreNarrow rs
are_narrow [] e f = tt
are_narrow (r ∷ rs) e f =
    let a = none_if (is_wide r.columns) r.role.place (width rs) e in
    let b = not_long r rs f in
    ((a.0, b.0), are_narrow rs a.1 b.1)

pub narrow : (o : Option (ℕ × ℕ)) (ends : ℕ × ℕ) → o ≡ Some ends → is_wide o ≡ false → (ends.0 ≤ ends.1) × (ends.1 ≤ 63)
narrow o ends e f = by (is_narrow ends) refl (ap is_wide (sym e) ∙ f)
  where
    by : (b : Bool) → is_narrow ends ≡ b → not b ≡ false → (ends.0 ≤ ends.1) × (ends.1 ≤ 63)
    by false h g = absurd (grind arith)
    by true h g =
        let parts = and_parts (nat_le ends.0 ends.1) (nat_le ends.1 63) h in
        let low : nat_le ends.0 ends.1 ≡ true = parts.0 in
        let high : nat_le ends.1 63 ≡ true = parts.1 in
        (grind (arith, nat_tests, low), grind (arith, nat_tests, high))

pub short_name : (o : Option (ℕ × ℕ)) (ends : ℕ × ℕ) (n : ℕ) → o ≡ Some ends → (is_some o && nat_lt 60 n) ≡ false → n ≤ 60
short_name o ends n e f =
    let g : nat_lt 60 n ≡ false = ap (λ (x : Option (ℕ × ℕ)). is_some x && nat_lt 60 n) (sym e) ∙ f in
    grind (arith, nat_tests, g)

declared : (roles : List StripRole) (x : Name) (ends : ℕ × ℕ) → AreNarrow roles → columns_at roles x ≡ Some ends → (length x ≤ 60) × (ends.1 ≤ 63)
declared [] x ends all e = absurd (grind arith)
declared (r ∷ rs) x ends all e = by (same r.role.name x) refl e (λ f. declared rs x ends all.1 f)
  where
    by : (b : Bool) → same r.role.name x ≡ b → (if b then r.columns else columns_at rs x) ≡ Some ends → (columns_at rs x ≡ Some ends → (length x ≤ 60) × (ends.1 ≤ 63)) → (length x ≤ 60) × (ends.1 ≤ 63)
    by true h f others =
        let is : r.role.name ≡ x = (bytes_eq-Decides r.role.name x).0 h in
        (subst (λ (y : Name). length y ≤ 60) is (short_name r.columns ends (length r.role.name) f all.0.1), (narrow r.columns ends f all.0.0).1)
    by false h f others = others f

-- ---- the columns of an end

within_most : (ends : ℕ × ℕ) (z : ℤ) → is_within ends z ≡ true → natural z ≤ ends.1
within_most ends (pos c) e = let parts = and_parts (int_le (pos ends.0) (pos c)) (int_le (pos c) (pos ends.1)) e in let high : int_le (pos c) (pos ends.1) ≡ true = parts.1 in grind (arith, nat_tests, high)
within_most ends (negsuc c) e = omega arith

not_true : (b : Bool) → not b ≡ false → b ≡ true
not_true true e = refl
not_true false e = absurd (false≢true (sym e))

neither : (a b : Bool) → (a || b) ≡ false → (a ≡ false) × (b ≡ false)
neither true b e = absurd (false≢true (sym e))
neither false b e = (refl, e)

stays : (ends : ℕ × ℕ) (off : ℤ) (vs : List ℕ) (v : ℕ) → leads_out ends off vs ≡ false → IsIn v vs → is_within ends (pos v +ℤ off) ≡ true
stays ends off [] v e is = absurd is
stays ends off (w ∷ ws) v e (inl same_one) =
    subst (λ (x : ℕ). is_within ends (pos x +ℤ off) ≡ true) same_one (not_true _ (neither (not (is_within ends (pos w +ℤ off))) (leads_out ends off ws) e).0)
stays ends off (w ∷ ws) v e (inr is) = stays ends off ws v (neither (not (is_within ends (pos w +ℤ off))) (leads_out ends off ws) e).1 is

both_true : (a b : Bool) → a ≡ true → (a && not b) ≡ false → b ≡ true
both_true true b e f = not_true b f
both_true false b e f = absurd (false≢true e)

stays_number : (ends : ℕ × ℕ) (off : ℤ) (around : Option Around) (v : Option ℕ) → Allows around v → base_is_out ends off around None ≡ false → is_within ends off ≡ true
stays_number ends off None None is e = not_true _ e
stays_number ends off None (Some v) is e = absurd is
stays_number ends off (Some around) None is e = absurd is
stays_number ends off (Some around) (Some v) is e =
    let order : around.low ≤ around.high = (in_most v around.low around.high is).0 in
    let copy : nat_le around.low around.high ≡ true = grind (arith, nat_tests, order) in
    both_true (nat_le around.low around.high) (is_within ends off) copy e

stays_based : (ends : ℕ × ℕ) (off : ℤ) (var : Spot) (around : Option Around) (v : Option ℕ) → Allows around v → first (unless_variable around (Some var)) ≡ None → base_is_out ends off around (Some var) ≡ false
    → is_within ends (column_of (record { var = Some var; off = off }) v) ≡ true
stays_based ends off var None v is e f = absurd (grind arith)
stays_based ends off var (Some around) None is e f = absurd is
stays_based ends off var (Some around) (Some v) is e f = stays ends off (numbers around.low around.high) v f is

stays_in : (ends : ℕ × ℕ) (off : ℤ) (var : Option Spot) (around : Option Around) (v : Option ℕ) → Allows around v → first (unless_variable around var) ≡ None → base_is_out ends off around var ≡ false
    → is_within ends (column_of (record { var = var; off = off }) v) ≡ true
stays_in ends off None around v is e f = subst (λ (z : ℤ). is_within ends z ≡ true) (sym (+ℤ_idl off)) (stays_number ends off around v is f)
stays_in ends off (Some var) around v is e f = stays_based ends off var around v is e f

one_sound : (roles : List StripRole) (role : Spot) (col : Option Col) (around : Option Around) → AreNarrow roles → differ (is_some (columns_at roles role.name)) (is_some col) ≡ false → first (variable_of around col) ≡ None
    → is_out (columns_at roles role.name) col around ≡ false → (v : Option ℕ) → Allows around v → IsShort role col v
one_sound roles role None around all e f g v is = tt
one_sound roles role (Some col) around all e f g v is = by (columns_at roles role.name) refl e g
  where
    by : (o : Option (ℕ × ℕ)) → columns_at roles role.name ≡ o → differ (is_some o) true ≡ false → is_out o (Some col) around ≡ false → IsShort role (Some col) v
    by None h d out = absurd (false≢true (sym d))
    by (Some ends) h d out =
        let of = declared roles role.name ends all h in
        let most : natural (column_of col v) ≤ ends.1 = within_most ends (column_of col v) (stays_in ends col.off col.var around v is f out) in
        (of.0, omega (arith, most, of.1))

none_left : (ps qs : List Place) → first (ps ++ qs) ≡ None → first ps ≡ None
none_left [] qs e = refl
none_left (p ∷ ps) qs e = absurd (grind arith)

none_right : (ps qs : List Place) → first (ps ++ qs) ≡ None → first qs ≡ None
none_right [] qs e = e
none_right (p ∷ ps) qs e = absurd (grind arith)

ends_sound : (roles : List StripRole) (es : List EndSite) → AreNarrow roles → first (plain roles es) ≡ None → first (variable es) ≡ None → first (column roles es) ≡ None → AllSound es
ends_sound roles [] all e f g = tt
ends_sound roles (x ∷ xs) all e f g =
    let a = none_if (differ (is_some (columns_at roles x.role.name)) (is_some x.col)) x.role.place (plain roles xs) e in
    let b = none_left (variable_of x.around x.col) (variable xs) f in
    let c = none_if (is_out (columns_at roles x.role.name) x.col x.around) x.role.place (column roles xs) g in
    (one_sound roles x.role x.col x.around all a.0 b c.0, ends_sound roles xs all a.1 (none_right (variable_of x.around x.col) (variable xs) f) c.1)

-- ---- no limit is passed

not_first : (a b : Option Excess) → first_of a b ≡ None → (a ≡ None) × (b ≡ None)
not_first None b e = (refl, e)
not_first (Some x) b e = absurd (grind arith)

not_passing : (q : Quantity) (o : Option Place) → passing q o ≡ None → o ≡ None
not_passing q None e = refl
not_passing q (Some p) e = absurd (grind arith)

at_most : (ps : List Place) (n : ℕ) → slice_get ps n ≡ None → length ps ≤ n
at_most [] n e = omega arith
at_most (p ∷ ps) zero e = absurd (grind arith)
at_most (p ∷ ps) (suc n) e = omega (arith, at_most ps n e)

-- what a file is to have
pub record Lawful (f : PlainStripFile) : Type 0 where
  pub narrow : AreNarrow f.roles
  pub sound : AllSound (sites f)
  pub roles : length (flat_roles f.roles) ≤ 64
  pub statements : length (origins_in f.body.list) ≤ 4000

places_length : (rs : List RoleText) → length (places_of rs) ≡ length rs
places_length [] = refl
places_length (r ∷ rs) = ap suc (places_length rs)

pub lawful : (f : PlainStripFile) → HasNoFault f → excess_of f ≡ None → Lawful f
lawful f fine e =
    let a = not_first (roles_excess f) (passing Statements (slice_get (origins_in f.body.list) 4000)) e in
    let b = not_first (passing NameLength (first_long f.roles)) (passing Roles (slice_get (places_of (flat_roles f.roles)) 64)) a.0 in
    let short = not_passing NameLength (first_long f.roles) b.0 in
    let few = at_most (places_of (flat_roles f.roles)) 64 (not_passing Roles _ b.1) in
    let narrow_all = are_narrow f.roles fine.narrow short in
    record {
      narrow = narrow_all;
      sound = ends_sound f.roles (sites f) narrow_all fine.in_columns fine.bound fine.within;
      roles = omega (arith, few, places_length (flat_roles f.roles));
      statements = at_most (origins_in f.body.list) 4000 (not_passing Statements _ a.1);
    }
