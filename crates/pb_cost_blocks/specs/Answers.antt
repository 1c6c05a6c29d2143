-- What the walk through a block answers: its count, where each part of it has few pieces.
use Rattle.std.specs.Prelude.{◌≡◌, ℕ, ◌<◌, ◌≤◌, ℤ, pos, ◌+ℤ◌, ◌<ℤ◌, Bool, true, List, length, Result, MatchResult}
use Rattle.pb_syntax.specs.declared.core_label.CoreLabel.{CoreLabel}
use Rattle.pb_core_language.specs.Tree.{StmtTree, BlockTree, BranchTrees}
use Rattle.pb_cost_pieces.specs.declared.join.Join.{Join}
use Rattle.pb_cost_pieces.specs.Lines.{value_in, joined}
use Rattle.pb_cost_joins.specs.declared.count.Count.{Count}
use Rattle.pb_cost_joins.specs.declared.span.Span.{Span}
use Rattle.pb_cost_joins.specs.Counts.{IsCount, Says}
use Rattle.pb_cost_blocks.specs.declared.asked.Asked.{Asked}
use Rattle.pb_cost_blocks.specs.declared.stop.Stop.{Stop}
use Rattle.pb_cost_blocks.specs.declared.stop.Stop.TheVariants.{TooManyPieces, Unfit, NoMemory}
use Rattle.pb_cost_blocks.specs.Asked.{counted, size_in}
use Rattle.pb_cost_blocks.specs.Fit.{weight_of_stmt, weight_of, weight_of_branches, is_fit_stmt, is_fit, are_fit}
use Rattle.pb_cost_blocks.specs.Few.{stmt_at, block_at, branches_at, nothing_sent, FewStmt, FewFrom, FewBranches, ManyStmt, ManyFrom, ManyBranches}

-- the count of a part that is this function, has this weight, and whose parts are few
pub record IsTold (span : Span) (f : ℤ → ℕ) (weight : ℕ) (few : Type 0) (c : Count) : Type 0 where
  pub count : IsCount c
  pub on : c.span ≡ span
  pub says : Says c (λ n. pos (f n))
  pub weighs : c.weight ≡ pos weight
  pub parts : few

-- why there is none
abbrev pub IsStopped : Bool → ℕ → Type 0 → Stop → Type 0
IsStopped fit weight many TooManyPieces = many
IsStopped fit weight many Unfit = fit ≡ true → weight ≤ 4100000 → ⊥
IsStopped fit weight many NoMemory = Unit {0}

abbrev pub IsAnswer : Span → (ℤ → ℕ) → Bool → ℕ → Type 0 → Type 0 → Result Count Stop → Type 0
IsAnswer span f fit weight few many r = MatchResult r (IsTold span f weight few) (IsStopped fit weight many)

-- what sends the same at each N
abbrev pub SameAnswer : Span → ℕ → Result Count Stop → Type 0
SameAnswer span number r = IsAnswer span (λ n. number) true number (Unit {0}) ⊥ r

abbrev pub StmtAnswer : Asked → List CoreLabel → StmtTree → Result Count Stop → Type 0
StmtAnswer asked labels stmt r = IsAnswer asked.span (stmt_at asked labels stmt) (is_fit_stmt stmt) (weight_of_stmt (counted asked.what) (size_in labels) stmt) (FewStmt asked labels stmt) (ManyStmt asked labels stmt) r

abbrev pub BlockAnswer : Asked → List CoreLabel → BlockTree → Result Count Stop → Type 0
BlockAnswer asked labels block r = IsAnswer asked.span (block_at asked labels block) (is_fit block) (weight_of (counted asked.what) (size_in labels) block) (FewFrom asked labels nothing_sent block) (ManyFrom asked labels nothing_sent block) r

abbrev pub BranchesAnswer : Asked → List CoreLabel → BranchTrees → Result Count Stop → Type 0
BranchesAnswer asked labels branches r = IsAnswer asked.span (branches_at asked labels branches) (are_fit branches) (weight_of_branches (counted asked.what) (size_in labels) branches) (FewBranches asked labels branches) (ManyBranches asked labels branches) r

-- ---- two counts joined

pub record IsJoined (join : Join) (a b c : Count) : Type 0 where
  pub count : IsCount c
  pub on : c.span ≡ a.span
  pub says : Says c (λ n. joined join (value_in a.list.items n) (value_in b.list.items n))
  pub weighs : c.weight ≡ a.weight +ℤ b.weight

abbrev pub FewJoined : Join → Count → Count → Count → Type 0
FewJoined join a b c = IsJoined join a b c × (length c.list.items ≤ 4096)

abbrev pub JoinStopped : Join → Count → Count → Stop → Type 0
JoinStopped join a b TooManyPieces = (c : Count) × IsJoined join a b c × (4096 < length c.list.items)
JoinStopped join a b Unfit = pos 4100000 <ℤ (a.weight +ℤ b.weight)
JoinStopped join a b NoMemory = Unit {0}

abbrev pub JoinAnswer : Join → Count → Count → Result Count Stop → Type 0
JoinAnswer join a b r = MatchResult r (FewJoined join a b) (JoinStopped join a b)
