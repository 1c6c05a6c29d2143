-- Areas that a guard can say.
use Rattle.std.specs.Prelude.{negsuc, ◌+ℤ◌}
use Rattle.pb_affine.specs.Values.{IsSmall}
use Rattle.pb_part_areas.specs.declared.area.Area.{Area}

-- the low end's offset, and the end's less one, are within 1,000,000 of zero
pub record IsSmallArea (a : Area) : Type 0 where
  pub low : IsSmall a.low.off
  pub end : IsSmall (a.end.off +ℤ negsuc 0)
