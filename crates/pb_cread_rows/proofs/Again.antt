-- The parts of a line that are spelled are read again.
use Rattle.std.proofs.Common.{◌≡◌, ℕ, suc, ◌+◌, ◌-◌, ◌^◌, ◌<◌, ◌≤◌, le-leb, leb-true, Bool, true, false, cond, List, [], ◌∷◌, ◌++◌, length, Option, Some, None, refl, sym, ap, ◌∙◌, arith, eqb-true, rules, drop, take}
use Rattle.std.specs.Prelude.{ℤ, pos, negsuc, int_le, nat_eq, nat_le, codes, decimal, ◌&&◌, not}
use Rattle.std.specs.List.{prefix_len, list_all}
use Rattle.std.specs.Fmt.{signed_decimal}
use Rattle.pb_affine.specs.declared.lin.Base.{Base}
use Rattle.pb_affine.specs.declared.lin.Base.TheVariants.{Fixed, Param, Var}
use Rattle.pb_affine.specs.declared.lin.Lin.{Lin}
use Rattle.pb_local.specs.Names.{is_letter, is_word, is_name}
use Rattle.pb_ctree.specs.Small.{offset_text, lin_text}
use Rattle.pb_ctree.specs.Rules.{is_offset, is_var}
use Rattle.pb_text_read.specs.Fronts.{strip}
use Rattle.pb_text_read.proofs.Digits.{begins_digit, decimal_first, number_again as below_again}
use Rattle.pb_cread_rows.specs.Parts.{number_at, small_at, minus, signed_at, offset_at, lin_of, lin_at, goes_on_name, word_of, behind_word, name_at}

pub and_left : (a b : Bool) → (a && b) ≡ true → a ≡ true
and_left true b e = refl
and_left false b e = absurd cc

pub and_right : (a b : Bool) → (a && b) ≡ true → b ≡ true
and_right true b e = e
and_right false b e = absurd cc

pub not_false : (a : Bool) → not a ≡ true → a ≡ false
not_false true e = absurd cc
not_false false e = refl

pub number_again : (n : ℕ) (rest : List ℕ) → n < 2 ^ 32 → begins_digit rest ≡ false → number_at (decimal n ++ rest) ≡ Some (n, rest)
number_again n rest small ends = below_again (2 ^ 32) n rest (omega (arith, small)) small ends

small_again : (n : ℕ) (rest : List ℕ) → n ≤ 1000000 → begins_digit rest ≡ false → small_at (decimal n ++ rest) ≡ Some (n, rest)
small_again n rest small ends =
    let fits : nat_le n 1000000 ≡ true = le-leb n 1000000 small in
    rw (number_again n rest (omega (arith, small)) ends, fits) refl

minus_suc : (n : ℕ) → minus (suc n) ≡ negsuc n
minus_suc n = search rules

-- an offset's size
abbrev pub size_of : ℤ → ℕ
size_of (pos n) = n
size_of (negsuc n) = suc n

pub offset_small : (off : ℤ) → is_offset off ≡ true → size_of off ≤ 1000000
offset_small (pos n) e = let h : int_le (pos n) (pos 1000000) ≡ true = and_right (int_le (negsuc 999999) (pos n)) (int_le (pos n) (pos 1000000)) e in leb-true n 1000000 h
offset_small (negsuc n) e = let h : int_le (negsuc 999999) (negsuc n) ≡ true = and_left (int_le (negsuc 999999) (negsuc n)) (int_le (negsuc n) (pos 1000000)) e in let k : n ≤ 999999 = leb-true n 999999 h in omega (arith, k)

-- what may stand behind a lin
pub record Ends (rest : List ℕ) : Type 0 where
  pub number : begins_digit rest ≡ false
  pub plus : strip (codes " + ") rest ≡ None
  pub minus : strip (codes " - ") rest ≡ None

no_param : (off : ℤ) (rest : List ℕ) → size_of off ≤ 1000000 → strip (codes "N") (signed_decimal off ++ rest) ≡ None
no_param (pos n) rest small = decimal_first 78 [] n rest refl (omega (arith, small))
no_param (negsuc n) rest small = refl

signed_again : (off : ℤ) (rest : List ℕ) → size_of off ≤ 1000000 → begins_digit rest ≡ false → signed_at (signed_decimal off ++ rest) ≡ Some (off, rest)
signed_again (pos n) rest small ends = rw (decimal_first 45 [] n rest refl (omega (arith, small)), small_again n rest small ends) refl
signed_again (negsuc n) rest small ends = rw (small_again (suc n) rest small ends) (ap (λ z. Some (z, rest)) (minus_suc n))

offset_again : (off : ℤ) (rest : List ℕ) → size_of off ≤ 1000000 → Ends rest → offset_at (offset_text off ++ rest) ≡ Some (off, rest)
offset_again (pos n) rest small ends = by_test (nat_eq n 0) refl where
  by_test : (b : Bool) → nat_eq n 0 ≡ b → offset_at (cond b [] (codes " + " ++ decimal n) ++ rest) ≡ Some (pos n, rest)
  by_test true e = let z : n ≡ 0 = eqb-true n 0 e in rw (ends.plus, ends.minus) (ap (λ k. Some (pos k, rest)) (sym z))
  by_test false e = rw (small_again n rest small ends.number) refl
offset_again (negsuc n) rest small ends =
    let k : n + 1 ≡ suc n = omega arith in
    ap (λ m. offset_at ((codes " - " ++ decimal m) ++ rest)) k ∙ rw (small_again (suc n) rest small ends.number) (ap (λ z. Some (z, rest)) (minus_suc n))

lin_again_at : (base : Base) (off : ℤ) (rest : List ℕ) → is_var base ≡ false → size_of off ≤ 1000000 → Ends rest → lin_at (lin_text (lin_of base off) ++ rest) ≡ Some (lin_of base off, rest)
lin_again_at Fixed off rest fixed small ends = rw (no_param off rest small, signed_again off rest small ends.number) refl
lin_again_at Param off rest fixed small ends = rw (offset_again off rest small ends) refl
lin_again_at Var off rest fixed small ends = absurd cc

pub lin_again : (l : Lin) (rest : List ℕ) → is_var l.base ≡ false → is_offset l.off ≡ true → Ends rest → lin_at (lin_text l ++ rest) ≡ Some (l, rest)
lin_again l rest fixed small ends = lin_again_at l.base l.off rest fixed (offset_small l.off small) ends

-- ---- names

abbrev pub begins_on : List ℕ → Bool
begins_on [] = false
begins_on (c ∷ cs) = goes_on_name c

stops_len : (rest : List ℕ) → begins_on rest ≡ false → prefix_len goes_on_name rest ≡ 0
stops_len [] e = refl
stops_len (c ∷ cs) e = rw e refl

word_len : (w rest : List ℕ) → list_all goes_on_name w ≡ true → begins_on rest ≡ false → prefix_len goes_on_name (w ++ rest) ≡ length w
word_len [] rest all ends = stops_len rest ends
word_len (c ∷ cs) rest all ends =
    let first : goes_on_name c ≡ true = and_left _ _ all in
    let tail : prefix_len goes_on_name (cs ++ rest) ≡ length cs = word_len cs rest (and_right _ _ all) ends in
    rw first (omega (arith, tail))

word_all : (w : List ℕ) → is_word w ≡ true → list_all goes_on_name w ≡ true
word_all [] e = absurd cc
word_all (c ∷ cs) e =
    let h : is_letter c ≡ true = and_left _ _ e in
    let t : list_all goes_on_name cs ≡ true = and_right _ _ e in
    rw (h, t) refl

take_front : (w rest : List ℕ) → take (length w) (w ++ rest) ≡ w
take_front [] rest = refl
take_front (c ∷ cs) rest = ap (λ x. c ∷ x) (take_front cs rest)

drop_front : (w rest : List ℕ) → drop (length w) (w ++ rest) ≡ rest
drop_front [] rest = refl
drop_front (c ∷ cs) rest = drop_front cs rest

pub name_again : (w rest : List ℕ) → is_name w ≡ true → begins_on rest ≡ false → name_at (w ++ rest) ≡ Some (w, rest)
name_again w rest is ends =
    let len : prefix_len goes_on_name (w ++ rest) ≡ length w = word_len w rest (word_all w (and_left _ _ (and_left _ _ is))) ends in
    let first : word_of (w ++ rest) ≡ w = ap (λ n. take n (w ++ rest)) len ∙ take_front w rest in
    let behind : behind_word (w ++ rest) ≡ rest = ap (λ n. drop n (w ++ rest)) len ∙ drop_front w rest in
    parts (word_of (w ++ rest)) (behind_word (w ++ rest)) first behind
  where
    parts : (x y : List ℕ) → x ≡ w → y ≡ rest → cond {A = Option (List ℕ × List ℕ)} (is_name x) (Some (x, y)) None ≡ Some (w, rest)
    parts x y p q = rw (p, q, is) refl
