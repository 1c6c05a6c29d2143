-- What the ranks find first in the blocks with a number.
use Rattle.std.specs.Prelude.{◌≡◌, ℕ, ℤ, true, false, ◌||◌, nat_eq, if◌then◌else◌, List, []}
use Rattle.pb_affine.specs.declared.range.NRange.{NRange}
use Rattle.pb_core_language.specs.declared.protocol.CoreRole.{CoreRole}
use Rattle.pb_core_language.specs.Outcomes.{Outcome, nothing_first}
use Rattle.pb_core_language.specs.Parts.{firsts_below, firsts_within, firsts_across}
use Rattle.pb_core_language.specs.Tree.{Mark, StmtTree, BlockTree, BranchTrees}
use Rattle.pb_core_language.specs.Verdict.{IsIn}
use Rattle.pb_part_areas.specs.declared.area.Area.{Area}
use Rattle.pb_part_areas.specs.Areas.{have}
use Rattle.pb_core_flat.specs.Seated.{rank, is_rank}
use Rattle.pb_core_flat.specs.OutcomeSets.{is_nothing, is_outcome}
use Rattle.pb_part_takers.specs.declared.held.Held.{Held}
use Rattle.pb_part_takers.specs.Loops.{held_of, ids_of}
use Rattle.pb_part_firsts.specs.declared.firsts.Entry.{Entry}
use Rattle.pb_part_firsts.specs.Firsts.{finds, first_in}

-- the new entries give all ranks these outcomes besides the old ones, and those with Nothing are added to those passed
pub record Answers (range : NRange) (roles : List CoreRole) (passed all : List Area) (old new : List Entry) (outs : ℤ → ℕ → ℤ → List Outcome) : Type 0 where
  pub out : (n : ℤ) (role : ℕ) (x : ℤ) (o : Outcome) → IsIn range n → is_rank roles n role x ≡ true → is_nothing o ≡ false →
      finds roles new n role x o ≡ finds roles old n role x o || is_outcome o (outs n role x)
  pub rest : (n : ℤ) (role : ℕ) (x : ℤ) → IsIn range n → is_rank roles n role x ≡ true →
      have all n role x ≡ have passed n role x || is_outcome nothing_first (outs n role x)

-- a block, if it has the number; and those with the number in a statement, in a block and in branches
abbrev pub numbered : List CoreRole → List Held → ℕ → Mark → BlockTree → ℤ → ℕ → ℤ → List Outcome
numbered roles held k m b n role x = if nat_eq k m.number then first_in roles held b n role x else []

abbrev pub below_of : List CoreRole → List Held → ℕ → StmtTree → ℤ → ℕ → ℤ → List Outcome
below_of roles held k s n role x = firsts_below roles n (rank roles n role x) k (ids_of held) (held_of held n role x) s

abbrev pub within_of : List CoreRole → List Held → ℕ → BlockTree → ℤ → ℕ → ℤ → List Outcome
within_of roles held k b n role x = firsts_within roles n (rank roles n role x) k (ids_of held) (held_of held n role x) b

abbrev pub across_of : List CoreRole → List Held → ℕ → BranchTrees → ℤ → ℕ → ℤ → List Outcome
across_of roles held k bs n role x = firsts_across roles n (rank roles n role x) k (ids_of held) (held_of held n role x) bs
