-- What runs without loops send.
use Rattle.std.specs.Prelude.{◌≡◌, ℤ, pos, true, List, []}
use Rattle.pb_core_language.specs.declared.protocol.CoreRole.{CoreRole}
use Rattle.pb_core_language.specs.Tree.{BlockTree}
use Rattle.pb_core_language.specs.Flat.{Block, stop}
use Rattle.pb_core_language.specs.FlatOf.{flat_block}
use Rattle.pb_core_language.specs.Run.{Setting}
use Rattle.pb_cost_laws.specs.Sent.{Counted, Sends, Way, IsExtreme}
use Rattle.pb_cost_laws.specs.Flats.{extreme, IsStraight}
use Rattle.pb_cost_laws.specs.Trees.{of_block, is_straight}

-- the least and the most of a flat block without loops, as told by its statements, are those of its ended runs
abbrev pub StraightSends : Type 0
StraightSends = (w : Setting) (way : Way) (what : Counted) (block : Block) → IsStraight block → IsExtreme way (Sends w what block) (extreme way what w.size block)

-- at each N the least and the most of a block of the core, as told by its statements, are those of the ended runs of that
-- block alone
abbrev pub BlockSends : Type 0
BlockSends = (w : Setting) (way : Way) (what : Counted) (roles : List CoreRole) (n : ℤ) (block : BlockTree) → is_straight block ≡ true →
    IsExtreme way (Sends w what (flat_block roles n [] (pos 0) block stop)) (of_block way what w.size n (pos 0) block)
