-- Where a file with strips has no fault, each end names, in each copy, a role or a column that there is.
use Rattle.std.proofs.Common.{◌≡◌, ℕ, zero, suc, ◌+◌, ◌-◌, ◌<◌, ◌≤◌, ℤ, pos, negsuc, ◌+ℤ◌, int_le, Bool, true, false, not, ◌&&◌, ◌||◌, nat_eq, nat_le, is_some, Option, None, Some, List, [], ◌∷◌, refl, sym, subst, arith, eqb-true, inl, inr}
use Rattle.std.proofs.lemmas.Bool.{true≢false, and_parts, or_parts, or_cases, not-false}
use Rattle.std.proofs.lemmas.Bool.Decides.{nat_tests}
use Rattle.std.proofs.lemmas.Int.{ints}
use Rattle.pb_text.specs.declared.place.Place.{Place}
use Rattle.pb_text.specs.declared.place.Spot.{Spot}
use Rattle.pb_strips_syntax.specs.declared.tree.Col.{Col}
use Rattle.pb_strips_syntax.specs.declared.tree.StripRole.{StripRole}
use Rattle.pb_strips_syntax.specs.Columns.{up_from, numbers, base_value, column_of}
use Rattle.pb_strips_syntax.specs.Flattening.{natural}
use Rattle.pb_strips_faults.specs.declared.site.Around.{Around}
use Rattle.pb_strips_faults.specs.declared.site.EndSite.{EndSite}
use Rattle.pb_strips_faults.specs.Faults.{place_if, columns_at, differ, plain, variable_of, variable, is_within, unless_variable, leads_out, has_copy, base_is_out, is_out, column}
use Rattle.pb_strips_laws.specs.Flat.{StripTable, column_at}
use Rattle.pb_strips_laws.proofs.Each.{Each, none_in}
use Rattle.pb_strips_laws.proofs.Numbering.{is_in, HasColumn}

-- ---- the numbers from a first to a last one

not_up_from : (c low : ℕ) → is_in c (up_from low zero) ≡ true → ⊥
not_up_from c low h = true≢false (sym h)

step_test : (c low count : ℕ) (rest : Bool) → low ≤ c → c < low + suc count → (suc low ≤ c → c < suc low + count → rest ≡ true) → (nat_eq c low || rest) ≡ true
step_test c low count rest h k later = grind (arith, nat_tests)

is_up_from : (c low count : ℕ) → low ≤ c → c < low + count → is_in c (up_from low count) ≡ true
is_up_from c low zero h k = absurd (omega (arith, h, k))
is_up_from c low (suc count) h k = step_test c low count (is_in c (up_from (suc low) count)) h k (is_up_from c (suc low) count)

is_number : (c low high : ℕ) → low ≤ c → c ≤ high → is_in c (numbers low high) ≡ true
is_number c low high h k = is_up_from c low (suc high - low) h (omega (arith, h, k))

has_numbers : (c low high : ℕ) → is_in c (numbers low high) ≡ true → nat_le low high ≡ true
has_numbers c low high h = by (nat_le low high) refl
  where
    by : (b : Bool) → nat_le low high ≡ b → nat_le low high ≡ true
    by true e = e
    by false e =
        let none : suc high - low ≡ 0 = grind (arith, nat_tests) in
        absurd (not_up_from c low (subst (λ count. is_in c (up_from low count) ≡ true) none h))

pos_le : (a c : ℕ) → int_le (pos a) (pos c) ≡ true → a ≤ c
pos_le a c h = grind (arith, ints, nat_tests)

column_is_number : (ends : ℕ × ℕ) (z : ℤ) → is_within ends z ≡ true → is_in (natural z) (numbers ends.0 ends.1) ≡ true
column_is_number ends (pos c) h =
    let both = and_parts (int_le (pos ends.0) (pos c)) (int_le (pos c) (pos ends.1)) h in
    is_number c ends.0 ends.1 (pos_le ends.0 c both.0) (pos_le c ends.1 both.1)
column_is_number ends (negsuc c) h = absurd (true≢false (sym (and_parts (int_le (pos ends.0) (negsuc c)) (int_le (negsuc c) (pos ends.1)) h).0))

-- ---- the column of an end

-- this is a value of the variable of the `columns` around
abbrev pub IsValue : Option Around → Option ℕ → Type 0
IsValue None v = Unit {0}
IsValue (Some around) None = ⊥
IsValue (Some around) (Some v) = is_in v (numbers around.low around.high) ≡ true

not_out : (ends : ℕ × ℕ) (off : ℤ) (vs : List ℕ) (v : ℕ) → leads_out ends off vs ≡ false → is_in v vs ≡ true → is_within ends (pos v +ℤ off) ≡ true
not_out ends off [] v h i = absurd (true≢false (sym i))
not_out ends off (w ∷ vs) v h i =
    let parts = or_parts (not (is_within ends (pos w +ℤ off))) (leads_out ends off vs) h in
    elim (or_cases (nat_eq v w) (is_in v vs) i) [
      | inl e ↦ subst (λ u. is_within ends (pos u +ℤ off) ≡ true) (sym (eqb-true v w e)) (not-false (is_within ends (pos w +ℤ off)) parts.0)
      | inr later ↦ not_out ends off vs v parts.1 later
    ]

copied : (around : Option Around) (v : Option ℕ) → IsValue around v → has_copy around ≡ true
copied None v h = refl
copied (Some around) None h = absurd h
copied (Some around) (Some v) h = has_numbers v around.low around.high h

second_false : (a b : Bool) → a ≡ true → (a && not b) ≡ false → b ≡ true
second_false true b h k = not-false b k
second_false false b h k = absurd (true≢false (sym h))

off_alone : (off : ℤ) → off ≡ pos 0 +ℤ off
off_alone off = omega (arith, ints)

stays_within : (ends : ℕ × ℕ) (off : ℤ) (var : Option Spot) (around : Option Around) (v : Option ℕ) → IsValue around v → unless_variable around var ≡ [] → base_is_out ends off around var ≡ false →
    is_within ends (base_value var v +ℤ off) ≡ true
stays_within ends off None around v value free out =
    subst (λ z. is_within ends z ≡ true) (off_alone off) (second_false (has_copy around) (is_within ends off) (copied around v value) out)
stays_within ends off (Some x) None v value free out = cc
stays_within ends off (Some x) (Some around) None value free out = absurd value
stays_within ends off (Some x) (Some around) (Some w) value free out = not_out ends off (numbers around.low around.high) w out value

module _ (t : StripTable) (n : ℤ) where
  pub has_column : (columns : Option (ℕ × ℕ)) (col : Option Col) (around : Option Around) (v : Option ℕ) → IsValue around v →
      differ (is_some columns) (is_some col) ≡ false → variable_of around col ≡ [] → is_out columns col around ≡ false → HasColumn columns (column_at t n col v)
  has_column None None around v value alike free out = tt
  has_column None (Some col) around v value alike free out = true≢false alike
  has_column (Some ends) None around v value alike free out = true≢false alike
  has_column (Some ends) (Some col) around v value alike free out =
      column_is_number ends (column_of col v) (stays_within ends col.off col.var around v value free out)

-- ---- the ends of a file

-- nothing is wrong with an end
pub record IsFine (roles : List StripRole) (e : EndSite) : Type 0 where
  pub alike : differ (is_some (columns_at roles e.role.name)) (is_some e.col) ≡ false
  pub free : variable_of e.around e.col ≡ []
  pub within : is_out (columns_at roles e.role.name) e.col e.around ≡ false

pub no_place : (test : Bool) (p : Place) → place_if test p ≡ [] → test ≡ false
no_place true p h = cc
no_place false p h = refl

pub are_fine : (roles : List StripRole) (es : List EndSite) → plain roles es ≡ [] → variable es ≡ [] → column roles es ≡ [] → Each (IsFine roles) es
are_fine roles [] h g k = tt
are_fine roles (e ∷ es) h g k =
    let a = none_in _ (plain roles es) h in
    let b = none_in (variable_of e.around e.col) (variable es) g in
    let c = none_in _ (column roles es) k in
    (record { alike = no_place _ e.role.place a.0; free = b.0; within = no_place _ e.role.place c.0 }, are_fine roles es a.1 b.1 c.1)
