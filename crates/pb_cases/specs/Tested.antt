-- Cuts near zero, for the tests.
use Rattle.std.specs.Prelude.{negsuc, ◌≤ℤ◌}
use Rattle.pb_affine.specs.declared.lin.Lin.{Lin}
use Rattle.pb_cases.specs.Breakpoints.{IsCut}

pub record IsInner (l : Lin) : Type 0 where
  pub cut : IsCut l
  pub low : negsuc 999 ≤ℤ l.off
