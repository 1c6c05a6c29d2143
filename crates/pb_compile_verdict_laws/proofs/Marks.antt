-- The marks of a core's tree: of its statements, of their ends, and of its branches.
use Rattle.std.proofs.Common.{◌+◌, ◌*◌, List, [], ◌∷◌, ◌++◌}
use Rattle.pb_core_language.specs.declared.tree.CoreEnd.{CoreEnd}
use Rattle.pb_core_language.specs.Tree.{Mark, StmtTree, message, foreach, loop, again, choice, run, barrier, broadcast, reduce, allreduce, BlockTree, nothing, more, BranchTrees, no_branch, branch}

-- the marks of a list of statements, of their ends, and of branches
pub record Found : Type 0 where
  pub owns : List Mark
  pub ends : List Mark
  pub branches : List Mark

abbrev pub none : Found
none = record { owns = []; ends = []; branches = [] }

abbrev pub both : Found → Found → Found
both x y = record { owns = x.owns ++ y.owns; ends = x.ends ++ y.ends; branches = x.branches ++ y.branches }

abbrev pub first_end : Mark → CoreEnd → Mark
first_end own end = record { number = 2 * own.number; place = end.place }

abbrev pub second_end : Mark → CoreEnd → Mark
second_end own end = record { number = 2 * own.number + 1; place = end.place }

-- a statement's own mark, and those of its ends
abbrev pub bare : Mark → Found
bare own = record { owns = own ∷ []; ends = []; branches = [] }

abbrev pub with_one : Mark → CoreEnd → Found
with_one own end = record { owns = own ∷ []; ends = first_end own end ∷ []; branches = [] }

abbrev pub with_two : Mark → CoreEnd → CoreEnd → Found
with_two own from to = record { owns = own ∷ []; ends = first_end own from ∷ second_end own to ∷ []; branches = [] }

abbrev pub of_branch : Mark → Found
of_branch mark = record { owns = []; ends = []; branches = mark ∷ [] }

abbrev mutual
  pub of_stmt : Mark → StmtTree → Found
  of_stmt own (message label from to) = with_two own from to
  of_stmt own (foreach bounds mark items) = both (bare own) (of_block items)
  of_stmt own (loop id mark body) = both (bare own) (of_block body)
  of_stmt own (again id) = bare own
  of_stmt own (choice kernel at branches) = both (with_one own at) (of_branches branches)
  of_stmt own (run kernel at) = with_one own at
  of_stmt own barrier = bare own
  of_stmt own (broadcast label root) = with_one own root
  of_stmt own (reduce label op root) = with_one own root
  of_stmt own (allreduce label op) = bare own

  pub of_block : BlockTree → Found
  of_block nothing = none
  of_block (more mark first rest) = both (of_stmt mark first) (of_block rest)

  pub of_branches : BranchTrees → Found
  of_branches no_branch = none
  of_branches (branch mark first rest) = both (of_branch mark) (both (of_block first) (of_branches rest))
