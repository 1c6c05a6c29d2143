-- Lins with a number added.
use Rattle.std.specs.Prelude.{◌≡◌, ℤ, pos, negsuc, ◌+ℤ◌, ◌≤ℤ◌}
use Rattle.pb_affine.specs.declared.lin.Lin.{Lin}
use Rattle.pb_affine.specs.Values.{shifted}

-- exact where the sum is within 2,000,000 of zero
pub record IsSum (l : Lin) (more : ℤ) (m : Lin) : Type 0 where
  pub base : m.base ≡ l.base
  pub exact : negsuc 1999999 ≤ℤ (l.off +ℤ more) → (l.off +ℤ more) ≤ℤ pos 2000000 → m ≡ shifted l more
