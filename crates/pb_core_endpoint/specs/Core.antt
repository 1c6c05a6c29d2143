-- The endpoints of a core at one N: what a core keeps whatever N is, and that with the rules at N its ranks do it.
use Rattle.std.specs.Prelude.{◌≡◌, ◌≢◌, ℕ, ℤ, Bool, true, false, ◌&&◌, ◌||◌, nat_eq, List, [], ◌∷◌}
use Rattle.pb_world.specs.Family.{Laws}
use Rattle.pb_world.specs.Theorem.{AllRanks}
use Rattle.pb_core_language.specs.Tree.{StmtTree, message, foreach, loop, again, choice, run, barrier, broadcast, reduce, allreduce, BlockTree, nothing, more, BranchTrees, no_branch, branch}
use Rattle.pb_core_language.specs.Plain.{Protocol}
use Rattle.pb_core_language.specs.Collectives.{setting_of}
use Rattle.pb_core_language.specs.Rules.{breaches, flat_at}
use Rattle.pb_core_endpoint.specs.Once.{once_family}

-- ---- a foreach holds messages and computes alone

abbrev pub is_simple : StmtTree → Bool
is_simple (message l f t) = true
is_simple (run k at) = true
is_simple (foreach h m items) = false
is_simple (loop id m body) = false
is_simple (again id) = false
is_simple (choice k at bs) = false
is_simple barrier = false
is_simple (broadcast l root) = false
is_simple (reduce l op root) = false
is_simple (allreduce l op) = false

abbrev pub are_simple : BlockTree → Bool
are_simple nothing = true
are_simple (more m s b) = is_simple s && are_simple b

abbrev mutual
  pub has_simple_items : StmtTree → Bool
  has_simple_items (foreach h m items) = are_simple items
  has_simple_items (loop id m body) = have_simple_items body
  has_simple_items (choice k at bs) = branches_have_simple_items bs
  has_simple_items (message l f t) = true
  has_simple_items (again id) = true
  has_simple_items (run k at) = true
  has_simple_items barrier = true
  has_simple_items (broadcast l root) = true
  has_simple_items (reduce l op root) = true
  has_simple_items (allreduce l op) = true

  pub have_simple_items : BlockTree → Bool
  have_simple_items nothing = true
  have_simple_items (more m s b) = has_simple_items s && have_simple_items b

  pub branches_have_simple_items : BranchTrees → Bool
  branches_have_simple_items no_branch = true
  branches_have_simple_items (branch m b bs) = have_simple_items b && branches_have_simple_items bs

-- ---- a continue stands inside its loop, and a choice has a branch

abbrev pub is_open : ℕ → List ℕ → Bool
is_open id [] = false
is_open id (x ∷ xs) = nat_eq id x || is_open id xs

abbrev pub has_branch : BranchTrees → Bool
has_branch no_branch = false
has_branch (branch m b bs) = true

-- inside the loops with these ids
abbrev mutual
  pub is_scoped : List ℕ → StmtTree → Bool
  is_scoped opens (foreach h m items) = are_scoped opens items
  is_scoped opens (loop id m body) = are_scoped (id ∷ opens) body
  is_scoped opens (again id) = is_open id opens
  is_scoped opens (choice k at bs) = has_branch bs && branches_are_scoped opens bs
  is_scoped opens (message l f t) = true
  is_scoped opens (run k at) = true
  is_scoped opens barrier = true
  is_scoped opens (broadcast l root) = true
  is_scoped opens (reduce l op root) = true
  is_scoped opens (allreduce l op) = true

  pub are_scoped : List ℕ → BlockTree → Bool
  are_scoped opens nothing = true
  are_scoped opens (more m s b) = is_scoped opens s && are_scoped opens b

  pub branches_are_scoped : List ℕ → BranchTrees → Bool
  branches_are_scoped opens no_branch = true
  branches_are_scoped opens (branch m b bs) = are_scoped opens b && branches_are_scoped opens bs

-- ---- a statement that another follows can end, and so can each loop in it

abbrev mutual
  pub can_end : StmtTree → Bool
  can_end (again id) = false
  can_end (loop id m body) = all_can_end body
  can_end (choice k at bs) = some_can_end bs
  can_end (message l f t) = true
  can_end (foreach h m items) = true
  can_end (run k at) = true
  can_end barrier = true
  can_end (broadcast l root) = true
  can_end (reduce l op root) = true
  can_end (allreduce l op) = true

  pub all_can_end : BlockTree → Bool
  all_can_end nothing = true
  all_can_end (more m s b) = can_end s && all_can_end b

  pub some_can_end : BranchTrees → Bool
  some_can_end no_branch = false
  some_can_end (branch m b bs) = all_can_end b || some_can_end bs

abbrev mutual
  pub loops_end_in : StmtTree → Bool
  loops_end_in (loop id m body) = all_can_end body && all_loops_end body
  loops_end_in (choice k at bs) = branches_loops_end bs
  loops_end_in (foreach h m items) = true
  loops_end_in (message l f t) = true
  loops_end_in (again id) = true
  loops_end_in (run k at) = true
  loops_end_in barrier = true
  loops_end_in (broadcast l root) = true
  loops_end_in (reduce l op root) = true
  loops_end_in (allreduce l op) = true

  pub all_loops_end : BlockTree → Bool
  all_loops_end nothing = true
  all_loops_end (more m s b) = loops_end_in s && all_loops_end b

  pub branches_loops_end : BranchTrees → Bool
  branches_loops_end no_branch = true
  branches_loops_end (branch m b bs) = all_loops_end b && branches_loops_end bs

abbrev pub is_nothing : BlockTree → Bool
is_nothing nothing = true
is_nothing (more m s b) = false

abbrev mutual
  pub keeps_ends : StmtTree → Bool
  keeps_ends (loop id m body) = all_keep_ends body
  keeps_ends (choice k at bs) = branches_keep_ends bs
  keeps_ends (foreach h m items) = true
  keeps_ends (message l f t) = true
  keeps_ends (again id) = true
  keeps_ends (run k at) = true
  keeps_ends barrier = true
  keeps_ends (broadcast l root) = true
  keeps_ends (reduce l op root) = true
  keeps_ends (allreduce l op) = true

  pub all_keep_ends : BlockTree → Bool
  all_keep_ends nothing = true
  all_keep_ends (more m s b) = (is_nothing b || (can_end s && loops_end_in s)) && (keeps_ends s && all_keep_ends b)

  pub branches_keep_ends : BranchTrees → Bool
  branches_keep_ends no_branch = true
  branches_keep_ends (branch m b bs) = all_keep_ends b && branches_keep_ends bs

-- ---- the theorem

-- what a core keeps whatever N is: the core of a file that keeps the rules 1 to 5 does
pub record IsProper (p : Protocol) : Type 0 where
  pub roles : p.roles ≢ []
  pub simple : have_simple_items p.body.block ≡ true
  pub scoped : are_scoped [] p.body.block ≡ true
  pub ends : all_keep_ends p.body.block ≡ true

-- Where no rule is broken at N = n, each rank's endpoint follows its part of the sequential run, and all ranks together do
-- the run in whatever order their events come, and stop only at its end.
abbrev pub CoreRanks : Type 0
CoreRanks = (p : Protocol) (n : ℤ) → IsProper p → breaches p n ≡ [] → Laws (once_family (setting_of p n) (flat_at p n)) × AllRanks (once_family (setting_of p n) (flat_at p n))
