-- Numbers and lins that are spelled are read again.
use Rattle.std.proofs.Common.{◌≡◌, ℕ, suc, ◌+◌, ◌-◌, ◌^◌, ◌<◌, le-leb, Bool, true, false, cond, List, [], ◌∷◌, ◌++◌, Some, None, refl, sym, ap, arith, eqb-true, add-one}
use Rattle.std.specs.Prelude.{ℤ, pos, negsuc, neg_ℤ, nat_eq, codes, decimal}
use Rattle.std.specs.Char.{is_ascii_digit}
use Rattle.std.specs.Fmt.{signed_decimal}
use Rattle.pb_affine.specs.declared.lin.Base.{Base}
use Rattle.pb_affine.specs.declared.lin.Base.TheVariants.{Fixed, Param, Var}
use Rattle.pb_affine.specs.declared.lin.Lin.{Lin}
use Rattle.pb_ctree.specs.Small.{offset_text, lin_text}
use Rattle.pb_cread_lines.specs.Fits.{FitsOffset}
use Rattle.pb_text_read.proofs.Digits.{begins_digit, number_again as below_again, decimal_first as front_differs}
use Rattle.pb_cread_lines.specs.Parts.{strip, number_at, offset_at, signed_at, narrow, based_at, lin_of, lin_at}

-- what may stand behind a lin
pub record Ends (rest : List ℕ) : Type 0 where
  pub number : begins_digit rest ≡ false
  pub plus : strip (codes " + ") rest ≡ None
  pub minus : strip (codes " - ") rest ≡ None

pub number_again : (n : ℕ) (rest : List ℕ) → n < 2 ^ 32 → begins_digit rest ≡ false → number_at (decimal n ++ rest) ≡ Some (n, rest)
number_again n rest small ends = below_again (2 ^ 32) n rest (omega (arith, small)) small ends

pub decimal_first : (p n : ℕ) (rest : List ℕ) → is_ascii_digit p ≡ false → n < 2 ^ 64 → strip (p ∷ []) (decimal n ++ rest) ≡ None
unfolding strip
decimal_first p n rest other small = front_differs p [] n rest other small

pub narrow_again : (off : ℤ) → FitsOffset off → narrow off ≡ Some off
unfolding narrow
narrow_again (pos n) fits = rw (le-leb n (2 ^ 31 - 1) (omega (arith, fits))) refl
narrow_again (negsuc n) fits = rw (le-leb n (2 ^ 31 - 1) (omega (arith, fits))) refl

pub offset_again : (off : ℤ) (rest : List ℕ) → FitsOffset off → Ends rest → offset_at (offset_text off ++ rest) ≡ Some (off, rest)
unfolding offset_at strip
offset_again (pos n) rest fits ends = by_test (nat_eq n 0) refl where
  by_test : (b : Bool) → nat_eq n 0 ≡ b → offset_at (cond b [] (codes " + " ++ decimal n) ++ rest) ≡ Some (pos n, rest)
  by_test true e = let z : n ≡ 0 = eqb-true n 0 e in rw (ends.plus, ends.minus) (ap (λ k. Some (pos k, rest)) (sym z))
  by_test false e = rw (number_again n rest (omega (arith, fits)) ends.number) refl
offset_again (negsuc n) rest fits ends = rw (number_again (n + 1) rest (omega (arith, fits)) ends.number) (ap (λ k. Some (neg_ℤ (pos k), rest)) (add-one n))

strip_dash : (x : List ℕ) → strip (codes "-") (45 ∷ x) ≡ Some x
unfolding strip
strip_dash x = refl

strip_param : (x : List ℕ) → strip (codes "N") (78 ∷ x) ≡ Some x
unfolding strip
strip_param x = refl

no_param : (x : List ℕ) → strip (codes "N") (105 ∷ x) ≡ None
unfolding strip
no_param x = refl

strip_var : (x : List ℕ) → strip (codes "i") (105 ∷ x) ≡ Some x
unfolding strip
strip_var x = refl

signed_again : (off : ℤ) (rest : List ℕ) → FitsOffset off → begins_digit rest ≡ false → signed_at (signed_decimal off ++ rest) ≡ Some (off, rest)
unfolding signed_at
signed_again (pos n) rest fits ends = rw (decimal_first 45 n rest refl (omega (arith, fits)), number_again n rest (omega (arith, fits)) ends) refl
signed_again (negsuc n) rest fits ends = rw (strip_dash (decimal (suc n) ++ rest), number_again (suc n) rest (omega (arith, fits)) ends) refl

signed_first : (p : ℕ) (off : ℤ) (rest : List ℕ) → is_ascii_digit p ≡ false → nat_eq p 45 ≡ false → FitsOffset off → strip (p ∷ []) (signed_decimal off ++ rest) ≡ None
unfolding strip
signed_first p (pos n) rest other dash fits = decimal_first p n rest other (omega (arith, fits))
signed_first p (negsuc n) rest other dash fits = rw dash refl

based_again : (base : Base) (off : ℤ) (rest : List ℕ) → FitsOffset off → Ends rest → based_at (lin_text (lin_of base off) ++ rest) ≡ Some ((base, off), rest)
unfolding based_at
based_again Fixed off rest fits ends = rw (signed_first 78 off rest refl refl fits, signed_first 105 off rest refl refl fits, signed_again off rest fits ends.number) refl
based_again Param off rest fits ends = rw (strip_param (offset_text off ++ rest), offset_again off rest fits ends) refl
based_again Var off rest fits ends = rw (no_param (offset_text off ++ rest), strip_var (offset_text off ++ rest), offset_again off rest fits ends) refl

pub lin_again : (l : Lin) (rest : List ℕ) → FitsOffset l.off → Ends rest → lin_at (lin_text l ++ rest) ≡ Some (l, rest)
unfolding lin_at
lin_again l rest fits ends = rw (based_again l.base l.off rest fits ends, narrow_again l.off fits) refl
