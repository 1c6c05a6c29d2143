-- A protocol's statements, and its program.
use Rattle.std.specs.Prelude.{◌≡◌, ℕ, ℤ, true, List, [], length, map}
use Rattle.std.specs.List.{All}
use Rattle.pb_affine.specs.declared.lin.Lin.{Lin}
use Rattle.pb_part_areas.specs.declared.area.Area.{Area}
use Rattle.pb_part_areas.specs.Areas.{have}
use Rattle.pb_part_areas.specs.Fits.{Fits}
use Rattle.pb_cases.specs.Breakpoints.{IsInRange}
use Rattle.pb_core_language.specs.Cuts.{role_cuts}
use Rattle.pb_core_language.specs.Plain.{Protocol}
use Rattle.pb_core_language.specs.Sound.{are_roles}
use Rattle.pb_core_flat.specs.Seated.{is_rank}
use Rattle.pb_local.specs.Tree.{Codes, Program}
use Rattle.pb_part_takers.specs.Pieces.{AreAmong}
use Rattle.pb_shape.specs.Places.{role_of}
use Rattle.pb_project.specs.Blocks.{known, IsBlockOf}

-- the statements of the body, which stands in no loop, for the areas of all ranks
pub record IsBodyOf (p : Protocol) (codes : Codes) : Type 0 where
  pub whole : List Area
  pub is : (n : ℤ) (role : ℕ) (x : ℤ) → are_roles p.roles ≡ true → IsInRange p.range n → have whole n role x ≡ is_rank p.roles n role x
  pub fits : (cuts : List Lin) → are_roles p.roles ≡ true → AreAmong (role_cuts p.roles) cuts → All (Fits p.range cuts) whole
  pub loops : ℕ
  pub block : IsBlockOf (known p.range (length p.roles) whole [] []) 0 loops p.body.block codes

-- these statements with the protocol's tables
pub record IsLocalOf (p : Protocol) (codes : Codes) (l : Program) : Type 0 where
  pub protocol : l.protocol ≡ p.name
  pub range : l.range ≡ p.range
  pub roles : l.roles ≡ map role_of p.roles
  pub labels : l.labels ≡ p.labels
  pub kernels : l.kernels ≡ p.kernels
  pub body : l.body ≡ codes
