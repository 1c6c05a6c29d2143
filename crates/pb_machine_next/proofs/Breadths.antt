-- A choice of a well-made tree has few branches.
use Rattle.std.proofs.Common.{◌≡◌, ◌≤◌, ℕ, zero, suc, max, List, [], ◌∷◌, ap, arith}
use Rattle.pb_local.specs.Tree.{Code, when, for_each, own, loop, again, choice, send, recv, run, barrier, broadcast, reduce, allreduce, Codes, nothing, more, Parts, no_part, part, Program, program_of}
use Rattle.pb_local.specs.WellMade.{Scope, behind, in_loop, loops_at, loops_in, IsMade, AreMade, ArePartsMade}
use Rattle.pb_ctree.specs.declared.tree.CTree.{CTree}
use Rattle.pb_ctree.specs.Trees.{IsTree}
use Rattle.pb_machine_next.specs.declared.step.Step.{Step}
use Rattle.pb_machine_next.specs.Heights.{breadth, breadth_all, breadth_parts}
use Rattle.pb_machine_next.specs.Place.{block_from, head, side, part_at, inside, Spot, enter, spot, root}

part_narrow : (k : ℕ) (bs : Parts) → breadth_all (part_at k bs) ≤ breadth_parts bs
part_narrow k no_part = omega arith
part_narrow zero (part a rest) = omega arith
part_narrow (suc k) (part a rest) = let h = part_narrow k rest in omega (arith, h)

head_narrow : (k : ℕ) (b : Codes) → breadth (head (block_from k b)) ≤ breadth_all b
head_narrow zero nothing = omega arith
head_narrow zero (more c cs) = omega arith
head_narrow (suc k) nothing = omega arith
head_narrow (suc k) (more c cs) = let h = head_narrow k cs in omega (arith, h)

side_narrow : (k : ℕ) (a b : Codes) → breadth_all (side k a b) ≤ max (breadth_all a) (breadth_all b)
side_narrow zero a b = omega arith
side_narrow (suc k) a b = omega arith

inside_narrow : (k : ℕ) (c : Code) → breadth_all (inside k c) ≤ breadth c
inside_narrow k (when gs a b) = side_narrow k a b
inside_narrow k (for_each l u body) = omega arith
inside_narrow k (loop id body) = omega arith
inside_narrow k (choice who kernel rs e ts bs) = let h = part_narrow k bs in omega (arith, h)
inside_narrow k (own off) = omega arith
inside_narrow k (again id) = omega arith
inside_narrow k (send l e) = omega arith
inside_narrow k (recv l e) = omega arith
inside_narrow k (run kernel) = omega arith
inside_narrow k barrier = omega arith
inside_narrow k (broadcast l e) = omega arith
inside_narrow k (reduce l op e) = omega arith
inside_narrow k (allreduce l op) = omega arith

spot_narrow : (s : Spot) (fs : List Step) → breadth_all (spot s fs).block ≤ breadth_all s.block
spot_narrow s [] = omega arith
spot_narrow s (f ∷ fs) =
    let a = spot_narrow (enter s f) fs in
    let b = inside_narrow f.part (head (block_from f.at s.block)) in
    let c = head_narrow f.at s.block in
    omega (arith, a, b, c)

-- a statement at the end of a path
pub path_narrow : (b : Codes) (path : List Step) (k : ℕ) (c : Code) (cs : Codes) → block_from k (spot (root b) path).block ≡ more c cs → breadth c ≤ breadth_all b
path_narrow b path k c cs h =
    let a = spot_narrow (root b) path in
    let e = head_narrow k (spot (root b) path).block in
    let same : breadth (head (block_from k (spot (root b) path).block)) ≡ breadth c = ap (λ z. breadth (head z)) h in
    omega (arith, a, e, same)

mutual
  made_narrow : (p : Program) (s : Scope) (c : Code) → IsMade p s c → breadth c ≤ 64
  made_narrow p s (when gs a b) h =
      let first = all_narrow p s a h.1 in
      let other = all_narrow p (behind s (loops_in a)) b h.2 in
      omega (arith, first, other)
  made_narrow p s (for_each l u body) h = all_narrow p s body h.2
  made_narrow p s (own off) h = omega arith
  made_narrow p s (loop id body) h = all_narrow p (in_loop s id) body h.1
  made_narrow p s (again id) h = omega arith
  made_narrow p s (choice who kernel rs e ts bs) h =
      let each = parts_narrow p s bs h.1 in
      omega (arith, each, h.0.most)
  made_narrow p s (send l e) h = omega arith
  made_narrow p s (recv l e) h = omega arith
  made_narrow p s (run kernel) h = omega arith
  made_narrow p s barrier h = omega arith
  made_narrow p s (broadcast l e) h = omega arith
  made_narrow p s (reduce l op e) h = omega arith
  made_narrow p s (allreduce l op) h = omega arith

  all_narrow : (p : Program) (s : Scope) (b : Codes) → AreMade p s b → breadth_all b ≤ 64
  all_narrow p s nothing h = omega arith
  all_narrow p s (more c cs) h =
      let first = made_narrow p s c h.0 in
      let others = all_narrow p (behind s (loops_at c)) cs h.1 in
      omega (arith, first, others)

  parts_narrow : (p : Program) (s : Scope) (bs : Parts) → ArePartsMade p s bs → breadth_parts bs ≤ 64
  parts_narrow p s no_part h = omega arith
  parts_narrow p s (part a rest) h =
      let first = all_narrow p s a h.0 in
      let others = parts_narrow p (behind s (loops_in a)) rest h.1 in
      omega (arith, first, others)

pub tree_narrow : (tree : CTree) → IsTree tree → breadth_all (program_of tree.local).body ≤ 64
tree_narrow tree h = all_narrow (program_of tree.local) _ (program_of tree.local).body h.made.body
