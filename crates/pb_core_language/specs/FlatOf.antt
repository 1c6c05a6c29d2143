-- The flat protocol of a core at one N. In docs/LANGUAGE.md: 'The flat protocol'.
--
-- With `role W[0..N-1]` the body
--     A() from W[i:0..N-2] to W[i+1];
--     rec X { rec Y { choice K at W[0] { continue Y; } or { continue X; } } }
-- is at N = 3, with `_` for where a statement or a branch comes from,
--     message _ 0 1 0 (message _ 1 2 0 (looped _ (looped _
--         (choice _ 0 0 (branch _ (again 0) (branch _ (again 1) no_branch)) stop) stop) stop))
--
-- n is N, and i and j are values of the variable.
use Rattle.std.specs.Prelude.{ℕ, suc, ◌+◌, ◌*◌, ℤ, pos, nat_eq, if◌then◌else◌, List, [], ◌∷◌}
use Rattle.pb_affine.specs.Values.{value, range}
use Rattle.pb_syntax.specs.declared.tree.Op.{Op}
use Rattle.pb_syntax.specs.declared.tree.Op.TheVariants.{Min, Max, Sum}
use Rattle.pb_world.specs.Actions as W
use Rattle.pb_world.specs.Actions.{Operation, Barrier, Broadcast, Reduce, Allreduce}
use Rattle.pb_core_language.specs.declared.protocol.CoreRole.{CoreRole}
use Rattle.pb_core_language.specs.declared.tree.CoreEnd.{CoreEnd}
use Rattle.pb_core_language.specs.Ranks.{Seat, seats, number_in}
use Rattle.pb_core_language.specs.Tree as T
use Rattle.pb_core_language.specs.Tree.{Mark, StmtTree, foreach, loop, run, barrier, broadcast, reduce, allreduce, BlockTree, nothing, more, BranchTrees}
use Rattle.pb_core_language.specs.Flat.{Asked, Origin, Block, stop, message, compute, together, choice, looped, again, Branches, no_branch, branch}

-- the seat of an end
abbrev pub seat : CoreEnd → ℤ → ℤ → Seat
seat end n i = record { role = end.role; index = value end.at n i }

-- an end by its number
abbrev pub asked : CoreEnd → ℕ → ℤ → ℤ → Asked
asked end number n i = record { mark = record { number = number; place = end.place }; seat = seat end n i }

-- where a statement with no end, with one end, and with a sender and a receiver comes from
abbrev pub from_none : Mark → Origin
from_none mark = record { mark = mark; ends = [] }

abbrev pub from_one : Mark → CoreEnd → ℤ → ℤ → Origin
from_one mark end n i = record { mark = mark; ends = asked end (2 * mark.number) n i ∷ [] }

abbrev pub from_two : Mark → CoreEnd → CoreEnd → ℤ → ℤ → Origin
from_two mark from to n i = record { mark = mark; ends = asked from (2 * mark.number) n i ∷ asked to (2 * mark.number + 1) n i ∷ [] }

-- the items for each of these values, in order, and then what is done after
abbrev pub for_each : List ℤ → (ℤ → Block → Block) → Block → Block
for_each [] items after = after
for_each (i ∷ others) items after = items i (for_each others items after)

-- how many loops stand between a continue and its loop
abbrev pub between : ℕ → List ℕ → ℕ
between id [] = 0
between id (other ∷ others) = if nat_eq id other then 0 else suc (between id others)

-- ---- collectives as the world knows them

abbrev pub operation_of : Op → Operation
operation_of Min = W.Min
operation_of Max = W.Max
operation_of Sum = W.Sum

module _ (roles : List CoreRole) (n : ℤ) where
  abbrev pub rank_of : CoreEnd → ℤ → ℕ
  rank_of end i = number_in (seat end n i) (seats roles n)

  -- A statement with the mark `own`, inside the loops with the ids `opens`, the innermost first, and what is done after it.
  -- The mark in a foreach or a loop is that of its block. What stands behind a continue is dropped.
  abbrev mutual
    pub flat_stmt : List ℕ → ℤ → Mark → StmtTree → Block → Block
    flat_stmt opens i own (T.message label from to) after = message (from_two own from to n i) (rank_of from i) (rank_of to i) label after
    flat_stmt opens i own (foreach bounds mark items) after = for_each (range (value bounds.low n i) (value bounds.high n i)) (λ j. flat_block opens j items) after
    flat_stmt opens i own (loop id mark body) after = looped (from_none own) (flat_block (id ∷ opens) i body stop) after
    flat_stmt opens i own (T.again id) after = again (between id opens)
    flat_stmt opens i own (T.choice kernel at branches) after = choice (from_one own at n i) (rank_of at i) kernel (flat_branches opens i branches) after
    flat_stmt opens i own (run kernel at) after = compute (from_one own at n i) (rank_of at i) kernel after
    flat_stmt opens i own barrier after = together (from_none own) Barrier after
    flat_stmt opens i own (broadcast label root) after = together (from_one own root n i) (Broadcast label (rank_of root i)) after
    flat_stmt opens i own (reduce label op root) after = together (from_one own root n i) (Reduce label (operation_of op) (rank_of root i)) after
    flat_stmt opens i own (allreduce label op) after = together (from_none own) (Allreduce label (operation_of op)) after

    pub flat_block : List ℕ → ℤ → BlockTree → Block → Block
    flat_block opens i nothing after = after
    flat_block opens i (more mark first rest) after = flat_stmt opens i mark first (flat_block opens i rest after)

    pub flat_branches : List ℕ → ℤ → BranchTrees → Branches
    flat_branches opens i T.no_branch = no_branch
    flat_branches opens i (T.branch mark first rest) = branch mark (flat_block opens i first stop) (flat_branches opens i rest)

  abbrev pub flat : BlockTree → Block
  flat body = flat_block [] (pos 0) body stop
