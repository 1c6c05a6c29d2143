-- Who is told of a choice.
use Rattle.std.specs.Prelude.{ℕ, ℤ, pos, List}
use Rattle.pb_affine.specs.declared.range.NRange.{NRange}
use Rattle.pb_core_language.specs.declared.protocol.CoreRole.{CoreRole}
use Rattle.pb_core_language.specs.declared.tree.CoreEnd.{CoreEnd}
use Rattle.pb_core_language.specs.Tree.{Mark, choice, BranchTrees}
use Rattle.pb_core_language.specs.Run.{Env, at_rank}
use Rattle.pb_core_language.specs.Flat.{takes_part_among}
use Rattle.pb_core_language.specs.FlatOf.{flat_branches}
use Rattle.pb_core_language.specs.Sound.{Rows}
use Rattle.pb_core_flat.specs.Seated.{rank}
use Rattle.pb_part_areas.specs.declared.area.Area.{Area}
use Rattle.pb_part_takers.specs.declared.held.Held.{Held}
use Rattle.pb_part_takers.specs.Loops.{ids_of}
use Rattle.pb_choice.specs.Flaws.{is_told}
use Rattle.pb_choice.specs.Scenes.{Stands, IsFairStmt, AreFair, Are}

-- the areas are of those that are told of a choice by this end
pub record AreTold (range : NRange) (whole : List Area) (held : List Held) (at : CoreEnd) (bs : BranchTrees) (areas : List Area) : Type 0 where
  pub is : (roles : List CoreRole) (rows : Rows) (env : ℤ → Env) (m : Mark) (kernel : ℕ) → Stands range roles env whole held → IsFairStmt range roles rows (ids_of held) m (choice kernel at bs) →
      Are range roles areas (is_told roles env (ids_of held) at bs)

-- the areas are of those that take part in some branch
pub record AreAmong (range : NRange) (whole : List Area) (held : List Held) (bs : BranchTrees) (areas : List Area) : Type 0 where
  pub is : (roles : List CoreRole) (rows : Rows) (env : ℤ → Env) → Stands range roles env whole held → AreFair range roles rows (ids_of held) bs →
      Are range roles areas (λ n role x. takes_part_among (at_rank (rank roles n role x) (env n)) (rank roles n role x) (flat_branches roles n (ids_of held) (pos 0) bs))
