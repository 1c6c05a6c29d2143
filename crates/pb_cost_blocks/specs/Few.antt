-- Whether the parts of a block have few pieces, part by part.
--
-- A part is the first statements of a block, or the first branches of a choice. While a block is walked through, `before` is
-- what the statements before send, at each N.
use Rattle.std.specs.Prelude.{ℕ, ◌+◌, ◌<◌, ◌≤◌, ℤ, pos, ◌⊎◌, List, length}
use Rattle.pb_syntax.specs.declared.core_label.CoreLabel.{CoreLabel}
use Rattle.pb_core_language.specs.Tree.{StmtTree, message, foreach, loop, again, choice, run, barrier, broadcast, reduce, allreduce, BlockTree, nothing, more, BranchTrees, no_branch, branch}
use Rattle.pb_cost_joins.specs.declared.span.Span.{Span}
use Rattle.pb_cost_laws.specs.Sent.{picked}
use Rattle.pb_cost_laws.specs.Trees as T
use Rattle.pb_cost_pieces.specs.declared.stretch.Stretch.{Stretch}
use Rattle.pb_cost_pieces.specs.Lines.{AreStretches}
use Rattle.pb_cost_blocks.specs.declared.asked.Asked.{Asked}
use Rattle.pb_cost_blocks.specs.Asked.{way_of, counted, size_in}

-- what is asked of a statement, a block and a choice, at each N
abbrev pub stmt_at : Asked → List CoreLabel → StmtTree → ℤ → ℕ
stmt_at asked labels stmt n = T.of_stmt (way_of asked.way) (counted asked.what) (size_in labels) n (pos 0) stmt

abbrev pub block_at : Asked → List CoreLabel → BlockTree → ℤ → ℕ
block_at asked labels block n = T.of_block (way_of asked.way) (counted asked.what) (size_in labels) n (pos 0) block

abbrev pub branches_at : Asked → List CoreLabel → BranchTrees → ℤ → ℕ
branches_at asked labels branches n = T.of_branches (way_of asked.way) (counted asked.what) (size_in labels) n (pos 0) branches

-- of a number and of these branches
abbrev pub behind_at : Asked → List CoreLabel → (ℤ → ℕ) → BranchTrees → ℤ → ℕ
behind_at asked labels best branches n = T.behind (way_of asked.way) (counted asked.what) (size_in labels) n (pos 0) (best n) branches

abbrev pub nothing_sent : ℤ → ℕ
nothing_sent n = 0

-- the function has at most 4,096 stretches on the span, or more
pub record IsFew (span : Span) (f : ℤ → ℕ) : Type 0 where
  pub list : List Stretch
  pub are : AreStretches (λ n. pos (f n)) span.to span.from list
  pub few : length list ≤ 4096

pub record IsMany (span : Span) (f : ℤ → ℕ) : Type 0 where
  pub list : List Stretch
  pub are : AreStretches (λ n. pos (f n)) span.to span.from list
  pub many : 4096 < length list

module _ (asked : Asked) (labels : List CoreLabel) where
  -- each part has few
  abbrev mutual
    pub FewStmt : StmtTree → Type 0
    FewStmt (message label from to) = Unit {0}
    FewStmt (foreach bounds mark items) = Unit {0}
    FewStmt (loop id mark body) = FewFrom nothing_sent body
    FewStmt (again id) = Unit {0}
    FewStmt (choice kernel at branches) = FewBranches branches
    FewStmt (run kernel at) = Unit {0}
    FewStmt barrier = Unit {0}
    FewStmt (broadcast label root) = Unit {0}
    FewStmt (reduce label op root) = Unit {0}
    FewStmt (allreduce label op) = Unit {0}

    pub FewFrom : (ℤ → ℕ) → BlockTree → Type 0
    FewFrom before nothing = IsFew asked.span before
    FewFrom before (more mark first rest) = IsFew asked.span before × (FewStmt first × FewFrom (λ n. before n + stmt_at asked labels first n) rest)

    pub FewBranches : BranchTrees → Type 0
    FewBranches no_branch = Unit {0}
    FewBranches (branch mark first rest) = FewFrom nothing_sent first × FewBehind (block_at asked labels first) rest

    -- `best` is that of the branches before
    pub FewBehind : (ℤ → ℕ) → BranchTrees → Type 0
    FewBehind best no_branch = IsFew asked.span best
    FewBehind best (branch mark first rest) = IsFew asked.span best × (FewFrom nothing_sent first × FewBehind (λ n. picked (way_of asked.way) (best n) (block_at asked labels first n)) rest)

  -- some part has many
  abbrev mutual
    pub ManyStmt : StmtTree → Type 0
    ManyStmt (message label from to) = ⊥
    ManyStmt (foreach bounds mark items) = ⊥
    ManyStmt (loop id mark body) = ManyFrom nothing_sent body
    ManyStmt (again id) = ⊥
    ManyStmt (choice kernel at branches) = ManyBranches branches
    ManyStmt (run kernel at) = ⊥
    ManyStmt barrier = ⊥
    ManyStmt (broadcast label root) = ⊥
    ManyStmt (reduce label op root) = ⊥
    ManyStmt (allreduce label op) = ⊥

    pub ManyFrom : (ℤ → ℕ) → BlockTree → Type 0
    ManyFrom before nothing = IsMany asked.span before
    ManyFrom before (more mark first rest) = IsMany asked.span before ⊎ (ManyStmt first ⊎ ManyFrom (λ n. before n + stmt_at asked labels first n) rest)

    pub ManyBranches : BranchTrees → Type 0
    ManyBranches no_branch = ⊥
    ManyBranches (branch mark first rest) = ManyFrom nothing_sent first ⊎ ManyBehind (block_at asked labels first) rest

    pub ManyBehind : (ℤ → ℕ) → BranchTrees → Type 0
    ManyBehind best no_branch = IsMany asked.span best
    ManyBehind best (branch mark first rest) = IsMany asked.span best ⊎ (ManyFrom nothing_sent first ⊎ ManyBehind (λ n. picked (way_of asked.way) (best n) (block_at asked labels first n)) rest)
