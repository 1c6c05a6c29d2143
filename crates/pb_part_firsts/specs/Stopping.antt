-- Ranks that stop, and what a rank finds first in a statement and in branches.
use Rattle.std.specs.Prelude.{◌≡◌, ℕ, ℤ, pos, Bool, true, false, ◌&&◌, ◌||◌, not, List}
use Rattle.pb_affine.specs.declared.range.NRange.{NRange}
use Rattle.pb_core_language.specs.declared.protocol.CoreRole.{CoreRole}
use Rattle.pb_core_language.specs.Tree.{Mark, StmtTree, BranchTrees}
use Rattle.pb_core_language.specs.Verdict.{IsIn}
use Rattle.pb_core_language.specs.Lists.{nth}
use Rattle.pb_core_language.specs.Flat.{stop}
use Rattle.pb_core_language.specs.FlatOf.{between, flat_stmt, flat_branches}
use Rattle.pb_core_language.specs.Outcomes.{Outcome, nothing_first, firsts, firsts_among}
use Rattle.pb_part_areas.specs.declared.area.Area.{Area}
use Rattle.pb_part_areas.specs.Areas.{have}
use Rattle.pb_core_flat.specs.Seated.{rank, is_rank}
use Rattle.pb_core_flat.specs.OutcomeSets.{outcome_eq, is_nothing, is_outcome}
use Rattle.pb_part_takers.specs.declared.held.Held.{Held}
use Rattle.pb_part_firsts.specs.declared.firsts.Entry.{Entry}
use Rattle.pb_part_firsts.specs.declared.firsts.Kind.{Kind}
use Rattle.pb_part_takers.specs.Loops.{held_of, ids_of}
use Rattle.pb_part_firsts.specs.Firsts.{outcome_of, finds}

abbrev pub first_at : List CoreRole → List Held → Mark → StmtTree → ℤ → ℕ → ℤ → List Outcome
first_at roles held m s n role x = firsts (held_of held n role x) (rank roles n role x) (flat_stmt roles n (ids_of held) (pos 0) m s stop)

abbrev pub first_among : List CoreRole → List Held → BranchTrees → ℤ → ℕ → ℤ → List Outcome
first_among roles held bs n role x = firsts_among (held_of held n role x) (rank roles n role x) (flat_branches roles n (ids_of held) (pos 0) bs)

-- the rank is in the body of the innermost loop with this id, for a reason other than its continue
abbrev pub is_held : ℕ → List Held → ℤ → ℕ → ℤ → Bool
is_held id held n role x = nth (held_of held n role x) (between id (ids_of held))

-- the ranks of some areas stop with this outcome
pub record Stops (roles : List CoreRole) (reach at left : List Area) (old new : List Entry) (kind : Kind) : Type 0 where
  pub out : (n : ℤ) (role : ℕ) (x : ℤ) (o : Outcome) →
      finds roles new n role x o ≡ finds roles old n role x o || ((have reach n role x && have at n role x) && outcome_eq (outcome_of roles kind n x) o)
  pub rest : (n : ℤ) (role : ℕ) (x : ℤ) → have left n role x ≡ have reach n role x && not (have at n role x)

-- as `Gives`, of branches: those that some branch leaves are added to those left so far
pub record AmongGives (range : NRange) (roles : List CoreRole) (reach passed left : List Area) (old new : List Entry) (outs : ℤ → ℕ → ℤ → List Outcome) : Type 0 where
  pub out : (n : ℤ) (role : ℕ) (x : ℤ) (o : Outcome) → IsIn range n → is_rank roles n role x ≡ true → is_nothing o ≡ false →
      finds roles new n role x o ≡ finds roles old n role x o || (have reach n role x && is_outcome o (outs n role x))
  pub rest : (n : ℤ) (role : ℕ) (x : ℤ) → IsIn range n → is_rank roles n role x ≡ true →
      have left n role x ≡ have passed n role x || (have reach n role x && is_outcome nothing_first (outs n role x))
