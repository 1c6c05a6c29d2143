-- The parts of a block whose pieces are counted: the first statements of each block that isn't a foreach's, and the first
-- branches of each choice, as a choice with these branches alone.
--
-- The parts of `A(); choice { B(); } or { C(); }` are
--     nothing; `A();`; `A(); choice { B(); } or { C(); }`;
--     `choice { B(); }`; `choice { B(); } or { C(); }`; nothing; `B();`; nothing; `C();`.
use Rattle.std.specs.Prelude.{◌≡◌, ◌⊎◌, ℕ}
use Rattle.pb_core_language.specs.declared.tree.CoreEnd.{CoreEnd}
use Rattle.pb_core_language.specs.Tree.{Mark, StmtTree, message, foreach, loop, again, choice, run, barrier, broadcast, reduce, allreduce, BlockTree, nothing, more, BranchTrees, no_branch, branch}

-- the first statements of the block, however many
abbrev pub IsBeginning : BlockTree → BlockTree → Type 0
IsBeginning part nothing = part ≡ nothing
IsBeginning part (more mark first rest) = (part ≡ nothing) ⊎ ((some : BlockTree) × (part ≡ more mark first some) × IsBeginning some rest)

-- the first branches, however many
abbrev pub AreFirst : BranchTrees → BranchTrees → Type 0
AreFirst part no_branch = part ≡ no_branch
AreFirst part (branch mark first rest) = (part ≡ no_branch) ⊎ ((some : BranchTrees) × (part ≡ branch mark first some) × AreFirst some rest)

-- a choice with some first branches, one at least
abbrev pub IsChoiceOf : BlockTree → Mark → ℕ → CoreEnd → BranchTrees → Type 0
IsChoiceOf part own kernel at no_branch = ⊥
IsChoiceOf part own kernel at (branch mark first rest) = (some : BranchTrees) × (part ≡ more own (choice kernel at (branch mark first some)) nothing) × AreFirst some rest

abbrev mutual
  -- a part of the choices and blocks in a statement
  pub IsPartOfStmt : BlockTree → Mark → StmtTree → Type 0
  IsPartOfStmt part own (message label from to) = ⊥
  IsPartOfStmt part own (foreach bounds mark items) = ⊥
  IsPartOfStmt part own (loop id mark body) = IsBeginning part body ⊎ IsWithin part body
  IsPartOfStmt part own (again id) = ⊥
  IsPartOfStmt part own (choice kernel at branches) = IsChoiceOf part own kernel at branches ⊎ IsPartOfBranches part branches
  IsPartOfStmt part own (run kernel at) = ⊥
  IsPartOfStmt part own barrier = ⊥
  IsPartOfStmt part own (broadcast label root) = ⊥
  IsPartOfStmt part own (reduce label op root) = ⊥
  IsPartOfStmt part own (allreduce label op) = ⊥

  pub IsWithin : BlockTree → BlockTree → Type 0
  IsWithin part nothing = ⊥
  IsWithin part (more mark first rest) = IsPartOfStmt part mark first ⊎ IsWithin part rest

  pub IsPartOfBranches : BlockTree → BranchTrees → Type 0
  IsPartOfBranches part no_branch = ⊥
  IsPartOfBranches part (branch mark first rest) = (IsBeginning part first ⊎ IsWithin part first) ⊎ IsPartOfBranches part rest

abbrev pub IsPart : BlockTree → BlockTree → Type 0
IsPart part block = IsBeginning part block ⊎ IsWithin part block
