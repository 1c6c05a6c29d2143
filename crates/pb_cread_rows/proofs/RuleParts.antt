-- The rules of rows, part by part.
use Rattle.std.proofs.Common.{◌≡◌, ℕ, Bool, true, false, List, length, refl}
use Rattle.std.proofs.lemmas.List.{length-map}
use Rattle.std.specs.Prelude.{◌&&◌, not, nat_lt, ℤ, pos, negsuc, int_le, ◌≤ℤ◌}
use Rattle.std.proofs.Common.{◌<◌, ltb-true, rules, arith}
use Rattle.pb_affine.specs.Values.{IsSmall}
use Rattle.pb_ctree.specs.Sums.{HasSmallEnds}
use Rattle.pb_cread_rows.proofs.Again.{and_left, and_right, not_false}
use Rattle.pb_affine.specs.declared.range.NRange.{NRange}
use Rattle.pb_local.specs.declared.tables.Role.{Role}
use Rattle.pb_local.specs.Names.{is_name}
use Rattle.pb_ctree.specs.Rules.{is_role, is_label_row, is_kernel_row, is_among, is_offset, is_var, is_payload, has_index}
use Rattle.pb_cread_rows.specs.Spelled.{names_of_roles, names_of_labels, names_of_kernels, has_fixed_ends, IsFresh}
use Rattle.pb_syntax.specs.declared.core_label.CoreLabel.{CoreLabel}
use Rattle.pb_syntax.specs.declared.core_label.CoreKernel.{CoreKernel}

and_same : (a b c d e f g h : Bool) → ((((((((a && b) && c) && d) && e) && f) && g) && h) ≡ (((a && b) && c) && (((d && e) && f) && g)) && h)
and_same true true true d e f g h = refl
and_same true true false d e f g h = refl
and_same true false c d e f g h = refl
and_same false b c d e f g h = refl

pub role_is : (range : NRange) (before : List (List ℕ)) (r : Role)
    → is_role range before r ≡ (((is_name r.name && not (is_among r.name before)) && nat_lt (length before) 64) && has_fixed_ends r) && has_index range r
role_is range before r = and_same (is_name r.name) (not (is_among r.name before)) (nat_lt (length before) 64) (is_offset r.low.off) (is_offset r.high.off) (not (is_var r.low.base)) (not (is_var r.high.base)) (has_index range r)

pub names_long : (roles : List Role) → length (names_of_roles roles) ≡ length roles
names_long roles = length-map roles (λ r. r.name)

pub labels_long : (labels : List CoreLabel) → length (names_of_labels labels) ≡ length labels
labels_long labels = length-map labels (λ l. l.name)

pub kernels_long : (kernels : List CoreKernel) → length (names_of_kernels kernels) ≡ length kernels
kernels_long kernels = length-map kernels (λ k. k.name)

and8 : (a b c d e f g h : Bool) → ((((((((a && b) && c) && d) && e) && f) && g) && h) ≡ true) → (c ≡ true) × (d ≡ true) × (e ≡ true)
and8 true true true true true f g h p = (refl, refl, refl)
and8 true true true true false f g h p = absurd cc
and8 true true true false e f g h p = absurd cc
and8 true true false d e f g h p = absurd cc
and8 true false c d e f g h p = absurd cc
and8 false b c d e f g h p = absurd cc

parts : (range : NRange) (before : List (List ℕ)) (r : Role) → is_role range before r ≡ true → (nat_lt (length before) 64 ≡ true) × (is_offset r.low.off ≡ true) × (is_offset r.high.off ≡ true)
parts range before r is = and8 (is_name r.name) (not (is_among r.name before)) (nat_lt (length before) 64) (is_offset r.low.off) (is_offset r.high.off) (not (is_var r.low.base)) (not (is_var r.high.base)) (has_index range r) is

pub role_few : (range : NRange) (before : List Role) (r : Role) → is_role range (names_of_roles before) r ≡ true → length before < 64
role_few range before r is = let h : length (names_of_roles before) < 64 = ltb-true (length (names_of_roles before)) 64 (parts range (names_of_roles before) r is).0 in omega (arith, h, names_long before)

offset_is : (off : ℤ) → is_offset off ≡ true → IsSmall off
offset_is off e = record {
  low = int_leb_true (negsuc 999999) off (and_left (int_le (negsuc 999999) off) (int_le off (pos 1000000)) e);
  high = int_leb_true off (pos 1000000) (and_right (int_le (negsuc 999999) off) (int_le off (pos 1000000)) e);
} where
  int_leb_true : (x y : ℤ) → int_le x y ≡ true → x ≤ℤ y
  int_leb_true x y e = search (rules, e)

pub role_small : (range : NRange) (before : List (List ℕ)) (r : Role) → is_role range before r ≡ true → HasSmallEnds r
role_small range before r is = let p = parts range before r is in record { low = offset_is r.low.off p.1; high = offset_is r.high.off p.2 }

fresh_by : (most : ℕ) (before : List (List ℕ)) (name : List ℕ) (is : Bool) → ((is && not (is_among name before)) && nat_lt (length before) most) ≡ true → IsFresh most before name
fresh_by most before name is e = record {
  few = ltb-true (length before) most (and_right (is && not (is_among name before)) (nat_lt (length before) most) e);
  absent = not_false (is_among name before) (and_right is (not (is_among name before)) (and_left (is && not (is_among name before)) (nat_lt (length before) most) e));
}

pub role_fresh : (range : NRange) (before : List (List ℕ)) (r : Role) → is_role range before r ≡ true → IsFresh 64 before r.name
role_fresh range before r is =
    let a = and_left _ _ is in
    let b = and_left _ _ a in
    let c = and_left _ _ b in
    let d = and_left _ _ c in
    fresh_by 64 before r.name (is_name r.name) (and_left _ _ d)

pub label_fresh : (before : List (List ℕ)) (l : CoreLabel) → is_label_row before l ≡ true → IsFresh 4000 before l.name
label_fresh before l is = fresh_by 4000 before l.name (is_name l.name) (and_left ((is_name l.name && not (is_among l.name before)) && nat_lt (length before) 4000) (is_payload l.payload) is)

pub kernel_fresh : (before : List (List ℕ)) (k : CoreKernel) → is_kernel_row before k ≡ true → IsFresh 4000 before k.name
kernel_fresh before k is = fresh_by 4000 before k.name (is_name k.name) is
