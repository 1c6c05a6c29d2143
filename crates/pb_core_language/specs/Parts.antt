-- Who takes part in a statement of a core, and what a rank finds first in a block of it, by the numbers of these.
use Rattle.std.specs.Prelude.{ℕ, ℤ, pos, Bool, true, false, ◌&&◌, ◌||◌, nat_eq, if◌then◌else◌, List, [], ◌∷◌, ◌++◌}
use Rattle.pb_core_language.specs.declared.protocol.CoreRole.{CoreRole}
use Rattle.pb_core_language.specs.Tree.{StmtTree, message, foreach, loop, again, choice, run, barrier, broadcast, reduce, allreduce, BlockTree, nothing, more, BranchTrees, no_branch, branch}
use Rattle.pb_core_language.specs.Plain.{MarkedBlock, Protocol}
use Rattle.pb_core_language.specs.Flat.{stop, takes_part}
use Rattle.pb_core_language.specs.FlatOf.{flat_stmt, flat_block}
use Rattle.pb_core_language.specs.Outcomes.{Outcome, firsts}

module _ (roles : List CoreRole) (n : ℤ) (r : ℕ) where
  -- whether the rank takes part in the body of this loop for a reason other than its continue
  abbrev pub is_in_body : List ℕ → List Bool → ℕ → BlockTree → Bool
  is_in_body opens held id body = takes_part (false ∷ held) r (flat_block roles n (id ∷ opens) (pos 0) body stop)

  -- The rank takes part in the statement with number k, which stands in the block, inside the loops with these ids.
  -- Statements inside a foreach aren't looked at.
  abbrev mutual
    pub takes_part_below : ℕ → List ℕ → List Bool → StmtTree → Bool
    takes_part_below k opens held (loop id mark body) = takes_part_within k (id ∷ opens) (is_in_body opens held id body ∷ held) body
    takes_part_below k opens held (choice kernel at branches) = takes_part_across k opens held branches
    takes_part_below k opens held (message label from to) = false
    takes_part_below k opens held (foreach bounds mark items) = false
    takes_part_below k opens held (again id) = false
    takes_part_below k opens held (run kernel at) = false
    takes_part_below k opens held barrier = false
    takes_part_below k opens held (broadcast label root) = false
    takes_part_below k opens held (reduce label op root) = false
    takes_part_below k opens held (allreduce label op) = false

    pub takes_part_within : ℕ → List ℕ → List Bool → BlockTree → Bool
    takes_part_within k opens held nothing = false
    takes_part_within k opens held (more mark first rest) =
        (nat_eq k mark.number && takes_part held r (flat_stmt roles n opens (pos 0) mark first stop)) || (takes_part_below k opens held first || takes_part_within k opens held rest)

    pub takes_part_across : ℕ → List ℕ → List Bool → BranchTrees → Bool
    takes_part_across k opens held no_branch = false
    takes_part_across k opens held (branch mark first rest) = takes_part_within k opens held first || takes_part_across k opens held rest

  -- what the rank finds first in the block with number k
  abbrev mutual
    pub firsts_below : ℕ → List ℕ → List Bool → StmtTree → List Outcome
    firsts_below k opens held (loop id mark body) =
        (if nat_eq k mark.number then firsts (is_in_body opens held id body ∷ held) r (flat_block roles n (id ∷ opens) (pos 0) body stop) else [])
        ++ firsts_within k (id ∷ opens) (is_in_body opens held id body ∷ held) body
    firsts_below k opens held (choice kernel at branches) = firsts_across k opens held branches
    firsts_below k opens held (message label from to) = []
    firsts_below k opens held (foreach bounds mark items) = []
    firsts_below k opens held (again id) = []
    firsts_below k opens held (run kernel at) = []
    firsts_below k opens held barrier = []
    firsts_below k opens held (broadcast label root) = []
    firsts_below k opens held (reduce label op root) = []
    firsts_below k opens held (allreduce label op) = []

    pub firsts_within : ℕ → List ℕ → List Bool → BlockTree → List Outcome
    firsts_within k opens held nothing = []
    firsts_within k opens held (more mark first rest) = firsts_below k opens held first ++ firsts_within k opens held rest

    pub firsts_across : ℕ → List ℕ → List Bool → BranchTrees → List Outcome
    firsts_across k opens held no_branch = []
    firsts_across k opens held (branch mark first rest) =
        (if nat_eq k mark.number then firsts held r (flat_block roles n opens (pos 0) first stop) else []) ++ (firsts_within k opens held first ++ firsts_across k opens held rest)

-- rank r takes part in statement k at N = n, and it finds this first in block k
abbrev pub takes_part_in : Protocol → ℤ → ℕ → ℕ → Bool
takes_part_in p n k r = takes_part_within p.roles n r k [] [] p.body.block

abbrev pub firsts_in : Protocol → ℤ → ℕ → ℕ → List Outcome
firsts_in p n k r =
    (if nat_eq k p.body.mark.number then firsts [] r (flat_block p.roles n [] (pos 0) p.body.block stop) else []) ++ firsts_within p.roles n r k [] [] p.body.block
