-- What is known where a part of a protocol stands.
use Rattle.std.specs.Prelude.{◌≡◌, ℕ, ℤ, pos, Bool, true, false, List, []}
use Rattle.pb_affine.specs.declared.range.NRange.{NRange}
use Rattle.pb_core_language.specs.declared.protocol.CoreRole.{CoreRole}
use Rattle.pb_core_language.specs.Ranks.{seats}
use Rattle.pb_core_language.specs.Tree.{Mark, StmtTree, BlockTree, BranchTrees}
use Rattle.pb_core_language.specs.Flat.{stop}
use Rattle.pb_core_language.specs.FlatOf.{flat_stmt, flat_block, flat_branches}
use Rattle.pb_core_language.specs.Run.{Env, at_rank}
use Rattle.pb_core_language.specs.Rules.{strays, each_origin, each_origin_among}
use Rattle.pb_core_language.specs.Sound.{Rows, is_stmt, is_block, are_branches}
use Rattle.pb_core_language.specs.Verdict.{IsIn}
use Rattle.pb_part_areas.specs.declared.area.Area.{Area}
use Rattle.pb_part_areas.specs.Areas.{have}
use Rattle.pb_part_takers.specs.declared.held.Held.{Held}
use Rattle.pb_part_takers.specs.Loops.{held_of}
use Rattle.pb_part_firsts.specs.Takers.{IsWhole}
use Rattle.pb_core_flat.specs.Seated.{rank, is_rank}

-- the areas have all ranks, and those of the loops around have who takes part in these
pub record Stands (range : NRange) (roles : List CoreRole) (env : ℤ → Env) (whole : List Area) (held : List Held) : Type 0 where
  pub whole_is : IsWhole range roles whole
  pub held_is : (n : ℤ) (role : ℕ) (x : ℤ) → IsIn range n → is_rank roles n role x ≡ true →
      held_of held n role x ≡ at_rank (rank roles n role x) (env n)

-- a statement, a block or branches, sound within these loops, whose ends are ranks at each N
pub record IsFairStmt (range : NRange) (roles : List CoreRole) (rows : Rows) (opens : List ℕ) (m : Mark) (s : StmtTree) : Type 0 where
  pub sound : is_stmt rows false opens s ≡ true
  pub seated : (n : ℤ) → IsIn range n → each_origin (strays (seats roles n)) (flat_stmt roles n opens (pos 0) m s stop) ≡ []

pub record IsFair (range : NRange) (roles : List CoreRole) (rows : Rows) (opens : List ℕ) (b : BlockTree) : Type 0 where
  pub sound : is_block rows false opens b ≡ true
  pub seated : (n : ℤ) → IsIn range n → each_origin (strays (seats roles n)) (flat_block roles n opens (pos 0) b stop) ≡ []

pub record AreFair (range : NRange) (roles : List CoreRole) (rows : Rows) (opens : List ℕ) (bs : BranchTrees) : Type 0 where
  pub sound : are_branches rows opens bs ≡ true
  pub seated : (n : ℤ) → IsIn range n → each_origin_among (strays (seats roles n)) (flat_branches roles n opens (pos 0) bs) ≡ []

-- of the ranks at each N of the range, the areas hold of those of which the test is true
pub record Are (range : NRange) (roles : List CoreRole) (areas : List Area) (test : ℤ → ℕ → ℤ → Bool) : Type 0 where
  pub is : (n : ℤ) (role : ℕ) (x : ℤ) → IsIn range n → is_rank roles n role x ≡ true → have areas n role x ≡ test n role x
