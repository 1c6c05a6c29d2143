-- The areas of ends.
use Rattle.std.specs.Prelude.{◌≡◌, ℕ, ℤ, pos, ◌≤ℤ◌, true, ◌++◌, List, Some, None}
use Rattle.pb_affine.specs.declared.lin.Lin.{Lin}
use Rattle.pb_affine.specs.declared.range.NRange.{NRange}
use Rattle.pb_affine.specs.Values.{value}
use Rattle.pb_part_areas.specs.declared.area.Area.{Area}
use Rattle.pb_part_areas.specs.Areas.{has}
use Rattle.pb_part_areas.specs.Fits.{Fits}
use Rattle.pb_core_language.specs.declared.tree.CoreEnd.{CoreEnd}
use Rattle.pb_core_language.specs.Cuts.{edges, end_cuts}
use Rattle.pb_core_language.specs.Sound.{is_small, is_bound, is_over_n}
use Rattle.pb_core_language.specs.declared.tree.Bounds.{Bounds}
use Rattle.pb_core_flat.specs.Seated.{is_at}
use Rattle.pb_core_flat.specs.Meets.{is_met}
use Rattle.pb_part_takers.specs.Pieces.{AreAmong}

-- the area holds of the rank of an end, if the end's offset is small
pub record IsEndArea (e : CoreEnd) (a : Area) : Type 0 where
  pub is : (n : ℤ) (role : ℕ) (x : ℤ) → pos 0 ≤ℤ n → is_small e.at.off ≡ true → has a n role x ≡ is_at e n (pos 0) role x
  pub fits : (range : NRange) (cuts : List Lin) → is_small e.at.off ≡ true → is_over_n e.at.base ≡ true → AreAmong (end_cuts None e) cuts → Fits range cuts a

-- the area holds of the ranks of an end for some value of a foreach's variable, if all offsets are small
pub record IsMetArea (h : Bounds) (e : CoreEnd) (a : Area) : Type 0 where
  pub is : (n : ℤ) (role : ℕ) (x : ℤ) → pos 0 ≤ℤ n → is_bound h.low ≡ true → is_bound h.high ≡ true → is_small e.at.off ≡ true →
      has a n role x ≡ is_met e (value h.low n (pos 0)) (value h.high n (pos 0)) n role x
  pub fits : (range : NRange) (cuts : List Lin) → is_bound h.low ≡ true → is_bound h.high ≡ true → is_small e.at.off ≡ true →
      AreAmong (edges h.low h.high ++ end_cuts (Some h) e) cuts → Fits range cuts a
