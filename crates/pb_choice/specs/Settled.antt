-- Branches at which no breach of the rules 10 to 12 is before the best so far, and what is inside them.
use Rattle.std.specs.Prelude.{◌≡◌, ℕ, ℤ, Option, List, []}
use Rattle.pb_affine.specs.declared.range.NRange.{NRange}
use Rattle.pb_core_language.specs.declared.protocol.CoreRole.{CoreRole}
use Rattle.pb_core_language.specs.declared.tree.CoreEnd.{CoreEnd}
use Rattle.pb_core_language.specs.Ranks.{Seat}
use Rattle.pb_core_language.specs.Rules.{ranked}
use Rattle.pb_core_language.specs.Tree.{Mark, choice, BranchTrees, no_branch, branch}
use Rattle.pb_core_language.specs.Run.{Env}
use Rattle.pb_core_language.specs.Sound.{Rows}
use Rattle.pb_core_language.specs.Verdict.{Broken}
use Rattle.pb_part_areas.specs.declared.area.Area.{Area}
use Rattle.pb_part_takers.specs.declared.held.Held.{Held}
use Rattle.pb_part_takers.specs.Loops.{ids_of}
use Rattle.pb_choice.specs.declared.found.Found.{Found}
use Rattle.pb_choice.specs.declared.rule.ChoiceRule.{ChoiceRule}
use Rattle.pb_choice.specs.Flaws.{IsFlaw, number_of, of_insides, of_tellings, is_told}
use Rattle.pb_choice.specs.Found.{IsNotBefore, Improves}
use Rattle.pb_choice.specs.Scenes.{Stands, IsFairStmt, AreFair}
use Rattle.pb_choice.specs.Walks.{FirstAt}

-- no breach of the rules 10 to 12 at this number is before the best so far
pub record IsSettled (best : Option Found) (number : ℕ) : Type 0 where
  pub is : (c : Broken) (k : ChoiceRule) (m : Mark) (seat : Seat) → c.breach ≡ ranked (number_of k) seat m → m.number ≡ number → IsNotBefore c best

-- the same at each of these branches
abbrev pub AreSettled : Option Found → BranchTrees → Type 0
AreSettled best no_branch = Unit {0}
AreSettled best (branch m b bs) = IsSettled best m.number × AreSettled best bs

pub record FirstInside (range : NRange) (whole : List Area) (held : List Held) (bs : BranchTrees) (old new : Option Found) : Type 0 where
  pub is : (roles : List CoreRole) (rows : Rows) (env : ℤ → Env) → Stands range roles env whole held → AreFair range roles rows (ids_of held) bs →
      Improves (IsFlaw range roles (of_insides roles env (ids_of held) bs)) old new

-- the rules on choices at the branches of a choice by this end
pub record FirstTold (range : NRange) (whole : List Area) (held : List Held) (at : CoreEnd) (bs : BranchTrees) (old new : Option Found) : Type 0 where
  pub is : (roles : List CoreRole) (rows : Rows) (env : ℤ → Env) (m : Mark) (kernel : ℕ) → Stands range roles env whole held → IsFairStmt range roles rows (ids_of held) m (choice kernel at bs) →
      Improves (IsFlaw range roles (of_tellings roles env (ids_of held) (is_told roles env (ids_of held) at bs) (λ n role x. []) bs)) old new

-- a choice by this end, wherever it stands
pub record FirstChoice (range : NRange) (whole : List Area) (held : List Held) (at : CoreEnd) (bs : BranchTrees) (old new : Option Found) : Type 0 where
  pub is : (m : Mark) (kernel : ℕ) → FirstAt range whole held m (choice kernel at bs) old new
