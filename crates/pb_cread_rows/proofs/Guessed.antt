-- A table's line that keeps its rule is guessed right.
use Rattle.std.proofs.Common.{◌≡◌, ℕ, ◌^◌, ◌<◌, ◌≤◌, leb-true, true, false, List, [], ◌∷◌, ◌++◌, Option, Some, None, refl, ap, ◌∙◌, append_assoc, arith}
use Rattle.std.specs.Prelude.{nat_le, codes, decimal, ◌&&◌}
use Rattle.pb_affine.specs.declared.lin.Lin.{Lin}
use Rattle.pb_affine.specs.declared.range.NRange.{NRange}
use Rattle.pb_syntax.specs.declared.tree.Payload.{Payload}
use Rattle.pb_syntax.specs.declared.tree.Payload.TheVariants.{Unit as NoWords, Int32, Uint32}
use Rattle.pb_syntax.specs.declared.core_label.CoreLabel.{CoreLabel}
use Rattle.pb_syntax.specs.declared.core_label.CoreKernel.{CoreKernel}
use Rattle.pb_syntax.specs.declared.core_label.KernelKind.{KernelKind}
use Rattle.pb_syntax.specs.declared.core_label.KernelKind.TheVariants.{Compute as Computes, Choice as Chooses}
use Rattle.pb_local.specs.declared.tables.Role.{Role}
use Rattle.pb_local.specs.Names.{is_name}
use Rattle.pb_ctree.specs.Frame.{high_text, payload_text}
use Rattle.pb_ctree.specs.Rules.{is_number, is_upper_end, is_range, is_offset, is_var, is_role, is_payload, is_label_row, is_kernel_row}
use Rattle.pb_ctree.specs.Small.{lin_text}
use Rattle.pb_cread_rows.specs.Guesses.{protocol_guess, high_at, range_of, range_guess, role_of, role_guess, payload_at, label_of, label_guess, kernel_of, kernel_guess}
use Rattle.pb_cread_rows.specs.Spelled.{protocol_text, range_line, role_line, label_line, kernel_line}
use Rattle.pb_text_read.proofs.Digits.{begins_digit, decimal_first}
use Rattle.pb_cread_rows.proofs.Again.{and_left, and_right, not_false, number_again, lin_again, name_again}

group3 : (a b c t : List ℕ) → (a ++ (b ++ (c ++ []))) ++ t ≡ a ++ (b ++ (c ++ t))
group3 a b c t = simp append_assoc

group5 : (a b c d e t : List ℕ) → (a ++ (b ++ (c ++ (d ++ (e ++ []))))) ++ t ≡ a ++ (b ++ (c ++ (d ++ (e ++ t))))
group5 a b c d e t = simp append_assoc

group7 : (a b c d e f g t : List ℕ) → (a ++ (b ++ (c ++ (d ++ (e ++ (f ++ (g ++ []))))))) ++ t ≡ a ++ (b ++ (c ++ (d ++ (e ++ (f ++ (g ++ t))))))
group7 a b c d e f g t = simp append_assoc

pub protocol_again : (name : List ℕ) → is_name name ≡ true → protocol_guess (protocol_text name) ≡ Some name
protocol_again name is =
    ap protocol_guess (group3 (codes "/* protocol ") name (codes " */") (10 ∷ []))
    ∙ rw (name_again name (codes " */" ++ 10 ∷ []) is refl) refl

number_small : (n : ℕ) → is_number n ≡ true → n < 2 ^ 32
number_small n e = let h : n ≤ 2000000000 = leb-true n 2000000000 e in omega (arith, h)

high_again : (low : ℕ) (high : Option ℕ) (rest : List ℕ) → is_upper_end low high ≡ true → begins_digit rest ≡ false → high_at (high_text high ++ rest) ≡ Some high
high_again low None rest e ends = refl
high_again low (Some n) rest e ends =
    let small : n < 2 ^ 32 = number_small n (and_right (nat_le low n) (is_number n) e) in
    rw (decimal_first 109 (97 ∷ 120 ∷ []) n rest refl (omega (arith, small)), number_again n rest small ends) refl

range_at : (low : ℕ) (high : Option ℕ) → is_range (range_of low high) ≡ true → range_guess (range_line (range_of low high)) ≡ Some (range_of low high)
range_at low high is =
    let most : is_upper_end low high ≡ true = and_right (nat_le 1 low && is_number low) (is_upper_end low high) is in
    let least : is_number low ≡ true = and_right (nat_le 1 low) (is_number low) (and_left (nat_le 1 low && is_number low) (is_upper_end low high) is) in
    let behind = codes " to " ++ (high_text high ++ (codes " */" ++ 10 ∷ [])) in
    ap range_guess (group5 (codes "/* N ") (decimal low) (codes " to ") (high_text high) (codes " */") (10 ∷ []))
    ∙ rw (number_again low behind (number_small low least) refl, high_again low high (codes " */" ++ 10 ∷ []) most refl) refl

pub range_again : (r : NRange) → is_range r ≡ true → range_guess (range_line r) ≡ Some r
range_again r is = range_at r.low r.high is

record IsKept (r : Role) : Type 0 where
  name : is_name r.name ≡ true
  low : is_offset r.low.off ≡ true
  high : is_offset r.high.off ≡ true
  low_fixed : is_var r.low.base ≡ false
  high_fixed : is_var r.high.base ≡ false

kept_role : (range : NRange) (before : List (List ℕ)) (r : Role) → is_role range before r ≡ true → IsKept r
kept_role range before r is =
    let a = and_left _ _ is in
    let b = and_left _ _ a in
    let c = and_left _ _ b in
    let d = and_left _ _ c in
    let e = and_left _ _ d in
    let f = and_left _ _ e in
    record { name = and_left _ _ f; low = and_right _ _ d; high = and_right _ _ c; low_fixed = not_false _ (and_right _ _ b); high_fixed = not_false _ (and_right _ _ a) }

role_at : (name : List ℕ) (low high : Lin) → IsKept (role_of name low high) → role_guess (role_line (role_of name low high)) ≡ Some (role_of name low high)
role_at name low high k =
    let end = codes " */" ++ 10 ∷ [] in
    let to = codes " to " ++ (lin_text high ++ end) in
    ap role_guess (group7 (codes "/* role ") name (codes " ") (lin_text low) (codes " to ") (lin_text high) (codes " */") (10 ∷ []))
    ∙ rw (
      name_again name (codes " " ++ (lin_text low ++ to)) k.name refl,
      lin_again low to k.low_fixed k.low (record { number = refl; plus = refl; minus = refl }),
      lin_again high end k.high_fixed k.high (record { number = refl; plus = refl; minus = refl }),
    ) refl

pub role_again : (range : NRange) (before : List (List ℕ)) (r : Role) → is_role range before r ≡ true → role_guess (role_line r) ≡ Some r
role_again range before r is = role_at r.name r.low r.high (kept_role range before r is)

count_small : (n : ℕ) → (nat_le 1 n && nat_le n 1024) ≡ true → n < 2 ^ 32
count_small n e = let h : n ≤ 1024 = leb-true n 1024 (and_right (nat_le 1 n) (nat_le n 1024) e) in omega (arith, h)

payload_again : (p : Payload) (rest : List ℕ) → is_payload p ≡ true → payload_at (payload_text p ++ rest) ≡ Some p
payload_again NoWords rest is = refl
payload_again (Int32 n) rest is =
    ap payload_at (group3 (codes "int32[") (decimal n) (codes "]") rest) ∙ rw (number_again n (codes "]" ++ rest) (count_small n is) refl) refl
payload_again (Uint32 n) rest is =
    ap payload_at (group3 (codes "uint32[") (decimal n) (codes "]") rest) ∙ rw (number_again n (codes "]" ++ rest) (count_small n is) refl) refl

label_at : (name : List ℕ) (payload : Payload) → is_name name ≡ true → is_payload payload ≡ true → label_guess (label_line (label_of name payload)) ≡ Some (label_of name payload)
label_at name payload is pays =
    let end = codes " */" ++ 10 ∷ [] in
    ap label_guess (group5 (codes "/* label ") name (codes " ") (payload_text payload) (codes " */") (10 ∷ []))
    ∙ rw (name_again name (codes " " ++ (payload_text payload ++ end)) is refl, payload_again payload end pays) refl

pub label_again : (before : List (List ℕ)) (l : CoreLabel) → is_label_row before l ≡ true → label_guess (label_line l) ≡ Some l
label_again before l is = label_at l.name l.payload (and_left _ _ (and_left _ _ (and_left _ _ is))) (and_right _ _ is)

group4 : (a b c d t : List ℕ) → (a ++ (b ++ (c ++ (d ++ [])))) ++ t ≡ a ++ (b ++ (c ++ (d ++ t)))
group4 a b c d t = simp append_assoc

kernel_row : (name : List ℕ) (kind : KernelKind) → is_name name ≡ true → kernel_guess (kernel_line (kernel_of name kind)) ≡ Some (kernel_of name kind)
kernel_row name Computes is =
    let end = codes "(int32_t N, int32_t role, int32_t index)" ++ 10 ∷ [] in
    ap kernel_guess (group4 (codes "static void ") (codes "k_") name (codes "(int32_t N, int32_t role, int32_t index)") (10 ∷ []))
    ∙ rw (name_again name end is refl) refl
kernel_row name Chooses is =
    let end = codes "(int32_t N, int32_t role, int32_t index)" ++ 10 ∷ [] in
    ap kernel_guess (group4 (codes "static int32_t ") (codes "c_") name (codes "(int32_t N, int32_t role, int32_t index)") (10 ∷ []))
    ∙ rw (name_again name end is refl) refl

pub kernel_again : (before : List (List ℕ)) (k : CoreKernel) → is_kernel_row before k ≡ true → kernel_guess (kernel_line k) ≡ Some k
kernel_again before k is = kernel_row k.name k.kind (and_left _ _ (and_left _ _ is))
