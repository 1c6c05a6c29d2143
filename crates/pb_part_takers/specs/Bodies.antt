-- The areas of those in the body of a loop.
use Rattle.std.specs.Prelude.{◌≡◌, ℕ, ℤ, true, false, List, ◌∷◌, None}
use Rattle.std.specs.List.{All}
use Rattle.pb_affine.specs.declared.lin.Lin.{Lin}
use Rattle.pb_affine.specs.declared.range.NRange.{NRange}
use Rattle.pb_part_areas.specs.declared.area.Area.{Area}
use Rattle.pb_part_areas.specs.Areas.{have}
use Rattle.pb_part_areas.specs.Fits.{Fits}
use Rattle.pb_core_language.specs.declared.protocol.CoreRole.{CoreRole}
use Rattle.pb_core_language.specs.Cuts.{block_cuts}
use Rattle.pb_core_language.specs.Parts.{is_in_body}
use Rattle.pb_core_language.specs.Sound.{Rows, is_block}
use Rattle.pb_core_language.specs.Tree.{BlockTree}
use Rattle.pb_core_flat.specs.Seated.{rank, is_rank}
use Rattle.pb_part_takers.specs.declared.held.Held.{Held}
use Rattle.pb_part_takers.specs.Loops.{ids_of, held_of, HeldFit}
use Rattle.pb_part_takers.specs.Pieces.{AreAmong}

-- the areas hold of the ranks that take part in the body of this loop for a reason other than its continue
pub record IsBody (whole : List Area) (around : List Held) (id : ℕ) (body : BlockTree) (areas : List Area) : Type 0 where
  pub is : (rows : Rows) (roles : List CoreRole) (n : ℤ) (role : ℕ) (x : ℤ) → is_block rows false (id ∷ ids_of around) body ≡ true → is_rank roles n role x ≡ true → have whole n role x ≡ true →
      have areas n role x ≡ is_in_body roles n (rank roles n role x) (ids_of around) (held_of around n role x) id body
  pub fits : (rows : Rows) (range : NRange) (cuts : List Lin) → is_block rows false (id ∷ ids_of around) body ≡ true → AreAmong (block_cuts None body) cuts → All (Fits range cuts) whole → HeldFit range cuts around →
      All (Fits range cuts) areas
