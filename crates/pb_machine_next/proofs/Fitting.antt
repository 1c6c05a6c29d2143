-- Which numbers are an int32.
use Rattle.std.proofs.Common.{◌≡◌, ℤ, pos, negsuc, Bool, true, false, ◌&&◌, int_le, if◌then◌else◌, Some, None, refl, arith}
use Rattle.std.specs.Prelude.{FitsSigned}
use Rattle.std.specs.Int.{w64}
use Rattle.std.proofs.lemmas.Int.{fits_signed_from_abs}
use Rattle.std.proofs.lemmas.Bool.Decides.{nat_tests}
use Rattle.pb_local.specs.Computed.{fits}
use Rattle.pb_machine_next.specs.Numbers.{int32}

-- an int32 lies between the two ends
pub fits_between : (x : ℤ) → (int_le (negsuc 2147483647) x && int_le x (pos 2147483647)) ≡ fits x
fits_between (pos n) = grind (arith, nat_tests)
fits_between (negsuc n) = grind (arith, nat_tests)

-- an int32 is an int64
wide : (x : ℤ) → fits x ≡ true → FitsSigned w64 x
wide (pos n) h = fits_signed_from_abs w64 (pos n) (grind (arith, nat_tests))
wide (negsuc n) h = fits_signed_from_abs w64 (negsuc n) (grind (arith, nat_tests))

pub int32_none : (x : ℤ) → (FitsSigned w64 x → ⊥) → None ≡ int32 x
int32_none x wider = by_fit (fits x) (wide x) where
  by_fit : (b : Bool) → (b ≡ true → FitsSigned w64 x) → None ≡ (if b then Some x else None)
  by_fit true h = absurd (wider (h refl))
  by_fit false h = refl
