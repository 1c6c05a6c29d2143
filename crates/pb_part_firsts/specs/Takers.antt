-- What a list of areas has to do with those that take part.
use Rattle.std.specs.Prelude.{◌≡◌, ℕ, ℤ, pos, Bool, true, ◌||◌, List}
use Rattle.pb_affine.specs.declared.range.NRange.{NRange}
use Rattle.pb_core_language.specs.declared.protocol.CoreRole.{CoreRole}
use Rattle.pb_core_language.specs.Tree.{BlockTree}
use Rattle.pb_core_language.specs.Verdict.{IsIn}
use Rattle.pb_core_language.specs.Flat.{stop, takes_part}
use Rattle.pb_core_language.specs.FlatOf.{flat_block}
use Rattle.pb_part_areas.specs.declared.area.Area.{Area}
use Rattle.pb_part_areas.specs.Areas.{have}
use Rattle.pb_core_flat.specs.Seated.{rank, is_rank}
use Rattle.pb_part_takers.specs.Loops.{held_of, ids_of}
use Rattle.pb_part_takers.specs.declared.held.Held.{Held}

-- the areas hold of the ranks alone, for each N of the range
pub record IsWhole (range : NRange) (roles : List CoreRole) (whole : List Area) : Type 0 where
  pub is : (n : ℤ) (role : ℕ) (x : ℤ) → IsIn range n → have whole n role x ≡ is_rank roles n role x

-- the new list holds of what the old one does, and of what the test is true of; asked of ranks alone
pub record Adds (range : NRange) (roles : List CoreRole) (old new : List Area) (p : ℤ → ℕ → ℤ → Bool) : Type 0 where
  pub is : (n : ℤ) (role : ℕ) (x : ℤ) → IsIn range n → is_rank roles n role x ≡ true → have new n role x ≡ have old n role x || p n role x

abbrev pub part_in : List CoreRole → List Held → BlockTree → ℤ → ℕ → ℤ → Bool
part_in roles held b n role x = takes_part (held_of held n role x) (rank roles n role x) (flat_block roles n (ids_of held) (pos 0) b stop)
