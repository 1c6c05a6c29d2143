-- Who takes part in a block, where all ranks are known.
use Rattle.std.proofs.Common.{◌≡◌, ◌∙◌, List, true, false}
use Rattle.pb_affine.specs.declared.range.NRange.{NRange}
use Rattle.pb_core_language.specs.declared.protocol.CoreRole.{CoreRole}
use Rattle.pb_core_language.specs.Sound.{Rows, is_block}
use Rattle.pb_core_language.specs.Tree.{BlockTree}
use Rattle.pb_part_areas.specs.declared.area.Area.{Area}
use Rattle.pb_part_takers.specs.declared.held.Held.{Held}
use Rattle.pb_part_takers.specs.Loops.{ids_of}
use Rattle.pb_part_takers.specs.Pieces.{IsAdded, block_piece}
use Rattle.pb_part_firsts.specs.Takers.{IsWhole, Adds, part_in}

pub takers_as : {range : NRange} {roles : List CoreRole} {whole : List Area} {held : List Held} {old new : List Area} (b : BlockTree) (rows : Rows) →
    IsWhole range roles whole → is_block rows false (ids_of held) b ≡ true → IsAdded whole held (block_piece held b) old new → Adds range roles old new (part_in roles held b)
takers_as {roles = roles} b rows k h a = record { is = λ n role x w r. a.is rows roles n role x h r (k.is n role x w ∙ r) }
