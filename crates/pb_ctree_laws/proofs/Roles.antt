-- The lines of the tables decide what is well made of them.
use Rattle.std.proofs.Common.{◌≡◌, ◌≢◌, ℕ, ◌+◌, ◌≤◌, ℤ, pos, ◌+ℤ◌, ◌≤ℤ◌, Bool, true, not, ◌&&◌, ◌⊎◌, IsTrue, List, [], ◌∷◌, ◌++◌, length, Option, Some, None, refl, ap, arith, Decides, int_le, nat_lt, nat_le, nat_eq}
use Rattle.std.proofs.lemmas.Int.{ints}
use Rattle.std.proofs.lemmas.Bool.Decides.{Decides-and, Decides-or, Decides-like, Decides-ltb, Decides-eqb}
use Rattle.pb_affine.specs.declared.lin.Base.{Base}
use Rattle.pb_affine.specs.declared.lin.Base.TheVariants.{Fixed, Param, Var}
use Rattle.pb_affine.specs.declared.range.NRange.{NRange}
use Rattle.pb_affine.specs.Values.{value, base_value, IsSmall}
use Rattle.pb_syntax.specs.declared.tree.Payload.{Payload}
use Rattle.pb_syntax.specs.declared.tree.Payload.TheVariants.{Unit as NoWords, Int32, Uint32}
use Rattle.pb_syntax.specs.declared.core_label.CoreLabel.{CoreLabel}
use Rattle.pb_syntax.specs.declared.core_label.CoreKernel.{CoreKernel}
use Rattle.pb_local.specs.declared.tables.Role.{Role}
use Rattle.pb_local.specs.Names.{is_name}
use Rattle.pb_local.specs.Ranks.{ranks_of}
use Rattle.pb_local.specs.Tree.{Program}
use Rattle.pb_local.specs.WellMade.{IsUpperEnd, IsRange, IsInRange, IsSingle, IsRole, IsPayload, IsLabelRow}
use Rattle.pb_ctree.specs.Frame.{role_lines, label_lines}
use Rattle.pb_ctree.specs.Rules.{is_number, is_upper_end, is_range, is_offset, is_var, has_index_at, goes_on, has_index, is_among, is_role, is_single, has_size, is_payload, is_label_row, is_kernel_row}
use Rattle.pb_ctree.specs.Texts.{all_kept}
use Rattle.pb_ctree_laws.proofs.Names.{new_is}
use Rattle.pb_ctree_laws.proofs.Parts.{offset_is, not_var}
use Rattle.pb_ctree_laws.proofs.Tables.{IsRow, AreRows, rows_are}
use Rattle.pb_ctree_laws.proofs.Tests.{always, itself, and_then, int_le_is, nat_le_is}

-- ---- the range

upper_is : (low : ℕ) (high : Option ℕ) → Decides (is_upper_end low high) (IsUpperEnd low high)
upper_is low None = always true refl
upper_is low (Some high) = Decides-and (nat_le low high) (is_number high) (nat_le_is low high) (nat_le_is high 2000000000)

pub range_is : (r : NRange) → Decides (is_range r) (IsRange r)
range_is r =
    Decides-like _ (λ w. record { some = w.0.0; most = w.0.1; high = w.1 }) (λ h. ((h.some, h.most), h.high))
    (Decides-and _ (is_upper_end r.low r.high) (Decides-and (nat_le 1 r.low) (is_number r.low) (nat_le_is 1 r.low) (nat_le_is r.low 2000000000)) (upper_is r.low r.high))

pub single_is : (r : NRange) → Decides (is_single r) (IsSingle r)
single_is r = at r.high r.low where
  at : (high : Option ℕ) (low : ℕ) → Decides (is_single (record { low = low; high = high })) (high ≡ Some low)
  at None low = (λ e. cc, λ h. absurd cc)
  at (Some high) low = Decides-like (nat_eq high low) (λ e. ap Some e) (λ e. some_same high low e) (Decides-eqb high low) where
    some_same : (a b : ℕ) → Some a ≡ Some b → a ≡ b
    some_same a b e = cc

-- ---- roles

-- at least one index for every N of the range
abbrev HasIndex : NRange → Role → Type 0
HasIndex range r = (n : ℕ) → IsInRange range n → value r.low (pos n) (pos 0) ≤ℤ value r.high (pos n) (pos 0)

-- one base, and then the other
between : (a b : Base) (x y : ℤ) (low high n : ℕ) → (a ≢ Var) → (b ≢ Var) → low ≤ n → n ≤ high →
    (x +ℤ base_value a (pos low) (pos 0)) ≤ℤ (y +ℤ base_value b (pos low) (pos 0)) → (x +ℤ base_value a (pos high) (pos 0)) ≤ℤ (y +ℤ base_value b (pos high) (pos 0)) →
    (x +ℤ base_value a (pos n) (pos 0)) ≤ℤ (y +ℤ base_value b (pos n) (pos 0))
between Fixed Fixed x y low high n f g least most h k = omega (arith, ints, h)
between Fixed Param x y low high n f g least most h k = omega (arith, ints, h, least)
between Param Fixed x y low high n f g least most h k = omega (arith, ints, k, most)
between Param Param x y low high n f g least most h k = omega (arith, ints, h)
between Fixed Var x y low high n f g least most h k = absurd (g refl)
between Param Var x y low high n f g least most h k = absurd (g refl)
between Var b x y low high n f g least most h k = absurd (f refl)

above : (a b : Base) (x y : ℤ) (low n : ℕ) → (a ≢ Var) → (b ≢ Var) → low ≤ n → goes_on a b ≡ true →
    (x +ℤ base_value a (pos low) (pos 0)) ≤ℤ (y +ℤ base_value b (pos low) (pos 0)) → (x +ℤ base_value a (pos n) (pos 0)) ≤ℤ (y +ℤ base_value b (pos n) (pos 0))
above Fixed Fixed x y low n f g least on h = omega (arith, ints, h)
above Fixed Param x y low n f g least on h = omega (arith, ints, h, least)
above Param Fixed x y low n f g least on h = absurd cc
above Param Param x y low n f g least on h = omega (arith, ints, h)
above Fixed Var x y low n f g least on h = absurd (g refl)
above Param Var x y low n f g least on h = absurd (g refl)
above Var b x y low n f g least on h = absurd (f refl)

-- N passes each number at last
far : (a b : Base) (x y : ℤ) (low : ℕ) → IsSmall x → IsSmall y → (x +ℤ base_value a (pos (low + 2000001)) (pos 0)) ≤ℤ (y +ℤ base_value b (pos (low + 2000001)) (pos 0)) → goes_on a b ≡ true
far Fixed b x y low small also h = refl
far Param Fixed x y low small also h = absurd (omega (arith, ints, h, small.low, also.high))
far Param Param x y low small also h = refl
far Param Var x y low small also h = refl
far Var b x y low small also h = refl

index_is : (low : ℕ) (high : Option ℕ) (r : Role) → IsUpperEnd low high → IsSmall r.low.off → IsSmall r.high.off → (r.low.base ≢ Var) → (r.high.base ≢ Var) →
    Decides (has_index (record { low = low; high = high }) r) (HasIndex (record { low = low; high = high }) r)
index_is low None r upper small also f g =
    Decides-like _
    (λ w. λ n within. above r.low.base r.high.base r.low.off r.high.off low n f g within.low w.1 w.0)
    (λ h. (h low (record { low = omega arith; high = tt }), far r.low.base r.high.base r.low.off r.high.off low small also (h (low + 2000001) (record { low = omega arith; high = tt }))))
    (Decides-and (has_index_at low r) (goes_on r.low.base r.high.base) (int_le_is _ _) (itself _))
index_is low (Some high) r upper small also f g =
    Decides-like _
    (λ w. λ n within. between r.low.base r.high.base r.low.off r.high.off low high n f g within.low within.high w.0 w.1)
    (λ h. (h low (record { low = omega arith; high = upper.0 }), h high (record { low = upper.0; high = omega arith })))
    (Decides-and (has_index_at low r) (has_index_at high r) (int_le_is _ _) (int_le_is _ _))

role_is : (range : NRange) → IsRange range → (before : List (List ℕ)) (r : Role) → Decides (is_role range before r) (IsRow (λ (x : Role). x.name) (IsRole range) 64 before r)
role_is range is before r =
    Decides-like _
    (λ w. record {
      fits = record { name = w.0.0.0.0.0.0.0; low = w.0.0.0.0.1; high = w.0.0.0.1; low_fixed = w.0.0.1; high_fixed = w.0.1; some = w.1 };
      fresh = w.0.0.0.0.0.0.1;
      room = w.0.0.0.0.0.1;
    })
    (λ h. (((((((h.fits.name, h.fresh), h.room), h.fits.low), h.fits.high), h.fits.low_fixed), h.fits.high_fixed), h.fits.some))
    (and_then _ (has_index range r)
    (Decides-and _ (not (is_var r.high.base))
    (Decides-and _ (not (is_var r.low.base))
    (Decides-and _ (is_offset r.high.off)
    (Decides-and _ (is_offset r.low.off)
    (Decides-and _ (nat_lt (length before) 64)
    (Decides-and (is_name r.name) (not (is_among r.name before)) (itself (is_name r.name)) (new_is before r.name))
    (Decides-ltb (length before) 64))
    (offset_is r.low.off))
    (offset_is r.high.off))
    (not_var r.low.base))
    (not_var r.high.base))
    (λ w. index_is range.low range.high r is.high w.0.0.0.1 w.0.0.1 w.0.1 w.1))

pub roles_are : (range : NRange) → IsRange range → (rs : List Role) → Decides (all_kept (role_lines range [] rs)) (AreRows (λ (x : Role). x.name) (IsRole range) 64 [] rs)
roles_are range is rs =
    rows_are (λ (x : Role). x.name) (IsRole range) 64 (is_role range) (λ before xs. all_kept (role_lines range before xs)) (λ before. refl) (λ before x xs. refl) (role_is range is) [] rs (omega arith)

pub size_is : (p : Program) → Decides (has_size p) ((1 ≤ length p.roles) × ((pos 1 ≤ℤ (ranks_of p.roles).a) ⊎ IsSingle p.range))
size_is p =
    Decides-and (nat_lt 0 (length p.roles)) _ (Decides-ltb 0 (length p.roles))
    (Decides-or (int_le (pos 1) (ranks_of p.roles).a) (is_single p.range) (int_le_is (pos 1) (ranks_of p.roles).a) (single_is p.range))

-- ---- labels and kernels

payload_is : (payload : Payload) → Decides (is_payload payload) (IsPayload payload)
payload_is NoWords = always true refl
payload_is (Int32 count) = Decides-and (nat_le 1 count) (nat_le count 1024) (nat_le_is 1 count) (nat_le_is count 1024)
payload_is (Uint32 count) = Decides-and (nat_le 1 count) (nat_le count 1024) (nat_le_is 1 count) (nat_le_is count 1024)

label_is : (before : List (List ℕ)) (l : CoreLabel) → Decides (is_label_row before l) (IsRow (λ (x : CoreLabel). x.name) IsLabelRow 4000 before l)
label_is before l =
    Decides-like _
    (λ w. record { fits = record { name = w.0.0.0; payload = w.1 }; fresh = w.0.0.1; room = w.0.1 })
    (λ h. (((h.fits.name, h.fresh), h.room), h.fits.payload))
    (Decides-and _ (is_payload l.payload)
    (Decides-and _ (nat_lt (length before) 4000)
    (Decides-and (is_name l.name) (not (is_among l.name before)) (itself (is_name l.name)) (new_is before l.name))
    (Decides-ltb (length before) 4000))
    (payload_is l.payload))

pub labels_are : (ls : List CoreLabel) → Decides (all_kept (label_lines [] ls)) (AreRows (λ (x : CoreLabel). x.name) IsLabelRow 4000 [] ls)
labels_are ls =
    rows_are (λ (x : CoreLabel). x.name) IsLabelRow 4000 is_label_row (λ before xs. all_kept (label_lines before xs)) (λ before. refl) (λ before x xs. refl) label_is [] ls (omega arith)

kernel_is : (before : List (List ℕ)) (k : CoreKernel) → Decides (is_kernel_row before k) (IsRow (λ (x : CoreKernel). x.name) (λ (x : CoreKernel). IsTrue (is_name x.name)) 4000 before k)
kernel_is before k =
    Decides-like _
    (λ w. record { fits = w.0.0; fresh = w.0.1; room = w.1 })
    (λ h. ((h.fits, h.fresh), h.room))
    (Decides-and _ (nat_lt (length before) 4000)
    (Decides-and (is_name k.name) (not (is_among k.name before)) (itself (is_name k.name)) (new_is before k.name))
    (Decides-ltb (length before) 4000))

-- the rules of the kernels' lines, by themselves
abbrev pub kernel_rules : List (List ℕ) → List CoreKernel → Bool
kernel_rules before [] = true
kernel_rules before (k ∷ ks) = is_kernel_row before k && kernel_rules (before ++ k.name ∷ []) ks

pub kernels_are : (ks : List CoreKernel) → Decides (kernel_rules [] ks) (AreRows (λ (x : CoreKernel). x.name) (λ (x : CoreKernel). IsTrue (is_name x.name)) 4000 [] ks)
kernels_are ks =
    rows_are (λ (x : CoreKernel). x.name) (λ (x : CoreKernel). IsTrue (is_name x.name)) 4000 is_kernel_row kernel_rules (λ before. refl) (λ before x xs. refl) kernel_is [] ks (omega arith)
