-- What has been added so far on the way through a block, or compared so far on the way through a choice.
--
-- r and c are what was counted so far.
use Rattle.std.specs.Prelude.{◌≡◌, ℕ, ◌+◌, ◌≤◌, ℤ, pos, ◌+ℤ◌, ◌≤ℤ◌, true, List, Result, MatchResult}
use Rattle.pb_syntax.specs.declared.core_label.CoreLabel.{CoreLabel}
use Rattle.pb_core_language.specs.Tree.{BlockTree, BranchTrees}
use Rattle.pb_cost_joins.specs.declared.count.Count.{Count}
use Rattle.pb_cost_joins.specs.declared.span.Span.{Span}
use Rattle.pb_cost_joins.specs.Counts.{IsCount, Says}
use Rattle.pb_cost_blocks.specs.declared.asked.Asked.{Asked}
use Rattle.pb_cost_blocks.specs.Answers.{IsTold, IsStopped}
use Rattle.pb_cost_blocks.specs.Asked.{counted, size_in}
use Rattle.pb_cost_blocks.specs.declared.running.Running.{Running}
use Rattle.pb_cost_blocks.specs.declared.stop.Stop.{Stop}
use Rattle.pb_cost_blocks.specs.Few.{block_at, branches_at, behind_at, nothing_sent, IsFew, IsMany, FewFrom, FewBranches, FewBehind, ManyFrom, ManyBranches, ManyBehind}
use Rattle.pb_cost_blocks.specs.Fit.{weight_of, weight_of_branches, is_fit, are_fit, are_items}
use Rattle.pb_cost_blocks.specs.Running.{AreCounts, total, total_weight}

-- nothing was added yet
abbrev pub IsBegun : Span → Result Count Stop → Type 0
IsBegun span r = MatchResult r (IsTold span nothing_sent 0 (IsFew span nothing_sent)) (IsStopped true 0 (IsMany span nothing_sent))

-- the statements before `rest` send `before`
pub record IsSum (asked : Asked) (labels : List CoreLabel) (r : Running) (rest block : BlockTree) : Type 0 where
  pub before : ℤ → ℕ
  pub counts : AreCounts r
  pub on : r.sum.span ≡ asked.span
  pub says : (n : ℤ) → asked.span.from ≤ℤ n → n ≤ℤ asked.span.to → total r n ≡ pos (before n)
  pub few : IsFew asked.span before
  pub whole : (n : ℤ) → block_at asked labels block n ≡ before n + block_at asked labels rest n
  pub weighs : pos (weight_of (counted asked.what) (size_in labels) block) ≡ total_weight r +ℤ pos (weight_of (counted asked.what) (size_in labels) rest)
  pub fit : is_fit block ≡ true → is_fit rest ≡ true
  pub all_few : FewFrom asked labels before rest → FewFrom asked labels nothing_sent block
  pub some_many : ManyFrom asked labels before rest → ManyFrom asked labels nothing_sent block

-- the least, or the most, of the branches before `rest` is `best`
pub record IsBest (asked : Asked) (labels : List CoreLabel) (c : Count) (rest branches : BranchTrees) : Type 0 where
  pub best : ℤ → ℕ
  pub count : IsCount c
  pub on : c.span ≡ asked.span
  pub says : Says c (λ n. pos (best n))
  pub few : IsFew asked.span best
  pub whole : (n : ℤ) → branches_at asked labels branches n ≡ behind_at asked labels best rest n
  pub weighs : pos (weight_of_branches (counted asked.what) (size_in labels) branches) ≡ c.weight +ℤ pos (weight_of_branches (counted asked.what) (size_in labels) rest)
  pub fit : are_fit branches ≡ true → are_fit rest ≡ true
  pub all_few : FewBehind asked labels best rest → FewBranches asked labels branches
  pub some_many : ManyBehind asked labels best rest → ManyBranches asked labels branches

-- the items before `rest` are messages and computes, which are counted so often for each value of the variable
pub record IsOnce (asked : Asked) (labels : List CoreLabel) (once : ℕ) (rest items : BlockTree) : Type 0 where
  pub all_items : are_items rest ≡ true → are_items items ≡ true
  pub rest_items : are_items items ≡ true → are_items rest ≡ true
  pub weighs : weight_of (counted asked.what) (size_in labels) items ≡ once + weight_of (counted asked.what) (size_in labels) rest
  pub light : once ≤ 4100000
