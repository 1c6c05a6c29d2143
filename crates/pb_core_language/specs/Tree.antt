-- The plain tree of a core: statements in blocks, each with its number and its place in the file.
use Rattle.std.specs.Prelude.{ℕ, Bool, true, false}
use Rattle.pb_syntax.specs.declared.tree.Op.{Op}
use Rattle.pb_text.specs.declared.place.Place.{Place}
use Rattle.pb_core_language.specs.declared.tree.CoreEnd.{CoreEnd}
use Rattle.pb_core_language.specs.declared.tree.Bounds.{Bounds}

-- the number and the place of a statement or a block
pub record Mark : Type 0 where
  pub number : ℕ
  pub place : Place

mutual
  pub data StmtTree : Type 0 where
    message : (label : ℕ) (from to : CoreEnd) → StmtTree
    foreach : (bounds : Bounds) (mark : Mark) (items : BlockTree) → StmtTree
    loop : (id : ℕ) (mark : Mark) (body : BlockTree) → StmtTree
    again : (id : ℕ) → StmtTree
    choice : (kernel : ℕ) (at : CoreEnd) (branches : BranchTrees) → StmtTree
    run : (kernel : ℕ) (at : CoreEnd) → StmtTree
    barrier : StmtTree
    broadcast : (label : ℕ) (root : CoreEnd) → StmtTree
    reduce : (label : ℕ) (op : Op) (root : CoreEnd) → StmtTree
    allreduce : (label : ℕ) (op : Op) → StmtTree

  -- the statements of a block, each with its mark
  pub data BlockTree : Type 0 where
    nothing : BlockTree
    more : (mark : Mark) (first : StmtTree) (rest : BlockTree) → BlockTree

  -- the branches of a choice, each with its block's mark
  pub data BranchTrees : Type 0 where
    no_branch : BranchTrees
    branch : (mark : Mark) (first : BlockTree) (rest : BranchTrees) → BranchTrees

-- it is a continue
abbrev pub is_again : StmtTree → Bool
is_again (message l f t) = false
is_again (foreach h m items) = false
is_again (loop id m body) = false
is_again (again id) = true
is_again (choice k at bs) = false
is_again (run k at) = false
is_again barrier = false
is_again (broadcast l root) = false
is_again (reduce l op root) = false
is_again (allreduce l op) = false
