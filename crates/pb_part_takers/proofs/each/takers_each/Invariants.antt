use Rattle.std.proofs.Common.{ℕ, List, map, drop}
use Rattle.pb_part_areas.specs.declared.area.Area.{Area}
use Rattle.pb_core_language.specs.Plain.{plain_stmt, block_of}
use Rattle.pb_part_takers.specs.declared.held.Held.{Held}
use Rattle.pb_part_takers.specs.Pieces.{IsAdded, items_piece}
use Rattle.pb_part_takers.proofs.each.takers_each.Given as goal

abbrev pub invariant-loop-stmt : goal.invariant-loop-stmt
invariant-loop-stmt l = (held : List Held) (ids : List ℕ) (new : List Area) →
    IsAdded l.whole held (items_piece l.over ids (block_of (map plain_stmt (drop l.stmt-index l.stmt-items)))) l.out.items new →
    IsAdded l.whole held (items_piece l.over ids (block_of (map plain_stmt l.stmt-items))) l.initial.out.items new
