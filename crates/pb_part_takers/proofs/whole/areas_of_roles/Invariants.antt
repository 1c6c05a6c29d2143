use Rattle.std.proofs.Common.{◌≡◌, ℕ, ℤ, ◌||◌, true, List, drop}
use Rattle.std.specs.List.{All}
use Rattle.pb_affine.specs.declared.lin.Lin.{Lin}
use Rattle.pb_cases.specs.Breakpoints.{IsInRange}
use Rattle.pb_part_areas.specs.Areas.{have}
use Rattle.pb_part_areas.specs.Fits.{Fits}
use Rattle.pb_core_language.specs.Cuts.{role_cuts}
use Rattle.pb_core_language.specs.Sound.{are_roles}
use Rattle.pb_core_flat.specs.Seated.{is_rank}
use Rattle.pb_part_takers.specs.Pieces.{AreAmong}
use Rattle.pb_part_takers.proofs.RoleAreas.{seated}
use Rattle.pb_part_takers.proofs.whole.areas_of_roles.Given as goal

abbrev pub invariant-loop-i : goal.invariant-loop-i
invariant-loop-i l = record {
  is : (n : ℤ) (role : ℕ) (x : ℤ) → are_roles l.roles ≡ true → IsInRange l.range n → have l.out.items n role x || seated l.i (drop l.i l.roles) n role x ≡ is_rank l.roles n role x;
  fits : (cuts : List Lin) → are_roles l.roles ≡ true → AreAmong (role_cuts l.roles) cuts → All (Fits l.range cuts) l.out.items;
}
