-- Who takes part in a statement, and where a continue goes back to.
use Rattle.std.specs.Prelude.{◌≡◌, ℕ, ℤ, pos, true, false, Option, Some, None, List}
use Rattle.std.specs.List.{All}
use Rattle.pb_affine.specs.declared.lin.Lin.{Lin}
use Rattle.pb_affine.specs.declared.range.NRange.{NRange}
use Rattle.pb_part_areas.specs.declared.area.Area.{Area}
use Rattle.pb_part_areas.specs.Areas.{have}
use Rattle.pb_part_areas.specs.Fits.{Fits}
use Rattle.pb_core_language.specs.declared.protocol.CoreRole.{CoreRole}
use Rattle.pb_core_language.specs.Cuts.{stmt_cuts}
use Rattle.pb_core_language.specs.Flat.{stop, takes_part}
use Rattle.pb_core_language.specs.FlatOf.{flat_stmt}
use Rattle.pb_core_language.specs.Sound.{Rows, is_stmt}
use Rattle.pb_core_language.specs.Tree.{Mark, StmtTree, message, foreach, loop, again, choice, run, barrier, broadcast, reduce, allreduce}
use Rattle.pb_core_flat.specs.Seated.{rank, is_rank}
use Rattle.pb_part_takers.specs.declared.held.Held.{Held}
use Rattle.pb_part_takers.specs.Loops.{ids_of, held_of, HeldFit}
use Rattle.pb_part_takers.specs.Pieces.{AreAmong}

-- of the ranks the areas hold of those that take part in the statement
pub record AreTakers (whole : List Area) (held : List Held) (m : Mark) (s : StmtTree) (areas : List Area) : Type 0 where
  pub is : (rows : Rows) (roles : List CoreRole) (n : ℤ) (role : ℕ) (x : ℤ) → is_stmt rows false (ids_of held) s ≡ true → is_rank roles n role x ≡ true → have whole n role x ≡ true →
      have areas n role x ≡ takes_part (held_of held n role x) (rank roles n role x) (flat_stmt roles n (ids_of held) (pos 0) m s stop)
  pub fits : (rows : Rows) (range : NRange) (cuts : List Lin) → is_stmt rows false (ids_of held) s ≡ true → AreAmong (stmt_cuts None s) cuts → All (Fits range cuts) whole → HeldFit range cuts held →
      All (Fits range cuts) areas

-- the loop of a continue
abbrev pub back_to : StmtTree → Option ℕ
back_to (message l f t) = None
back_to (foreach h m items) = None
back_to (loop id m body) = None
back_to (again id) = Some id
back_to (choice k at bs) = None
back_to (run k at) = None
back_to barrier = None
back_to (broadcast l root) = None
back_to (reduce l op root) = None
back_to (allreduce l op) = None
