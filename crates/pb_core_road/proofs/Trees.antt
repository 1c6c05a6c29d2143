-- What can end, a run may pass.
use Rattle.std.proofs.Common.{◌≡◌, ℕ, zero, suc, ◌<◌, ℤ, Bool, true, false, ◌&&◌, ◌||◌, List, [], ◌∷◌, ◌++◌, inl, inr, arith}
use Rattle.std.proofs.lemmas.Bool.{and_parts, cases_Bool as cases}
use Rattle.pb_affine.specs.Values.{value, range}
use Rattle.pb_world.specs.Actions.{Action}
use Rattle.pb_core_language.specs.declared.protocol.CoreRole.{CoreRole}
use Rattle.pb_core_language.specs.Tree as T
use Rattle.pb_core_language.specs.Tree.{Mark, StmtTree, BlockTree, BranchTrees}
use Rattle.pb_core_language.specs.Flat.{Block, stop, count, branch_at}
use Rattle.pb_core_language.specs.FlatOf.{for_each, flat_stmt, flat_block, flat_branches}
use Rattle.pb_core_language.specs.Run.{Setting}
use Rattle.pb_core_endpoint.specs.Core.{is_simple, are_simple, has_simple_items, have_simple_items, branches_have_simple_items, can_end, all_can_end, some_can_end}
use Rattle.pb_core_road.specs.Roads.{Across, at_once, by_message, by_compute, by_together, by_choice, by_loop}
use Rattle.pb_core_road.proofs.Roads.{across_on}

module _ (w : Setting) (roles : List CoreRole) (n : ℤ) where
  -- the same actions before whatever follows
  abbrev pub Passed : (Block → Block) → Type 0
  Passed F = (s : List (ℕ × Action)) × ((g : Block) → Across w (F g) s g)

  items_pass : (opens : List ℕ) (i : ℤ) (items : BlockTree) → are_simple items ≡ true → Passed (flat_block roles n opens i items)
  items_pass opens i T.nothing h = ([], λ g. at_once)
  items_pass opens i (T.more m (T.message l f t) rest) h = let r = items_pass opens i rest h in (_, λ g. by_message (r.1 g))
  items_pass opens i (T.more m (T.run k e) rest) h = let r = items_pass opens i rest h in (_, λ g. by_compute (r.1 g))
  items_pass opens i (T.more m (T.foreach b k items) rest) h = cc
  items_pass opens i (T.more m (T.loop id k body) rest) h = cc
  items_pass opens i (T.more m (T.again id) rest) h = cc
  items_pass opens i (T.more m (T.choice k e bs) rest) h = cc
  items_pass opens i (T.more m T.barrier rest) h = cc
  items_pass opens i (T.more m (T.broadcast l e) rest) h = cc
  items_pass opens i (T.more m (T.reduce l op e) rest) h = cc
  items_pass opens i (T.more m (T.allreduce l op) rest) h = cc

  each_pass : (opens : List ℕ) (items : BlockTree) (xs : List ℤ) → are_simple items ≡ true → Passed (for_each xs (λ j. flat_block roles n opens j items))
  each_pass opens items [] h = ([], λ g. at_once)
  each_pass opens items (x ∷ xs) h =
      let a = items_pass opens x items h in
      let b = each_pass opens items xs h in
      (a.0 ++ b.0, λ g. across_on w (a.1 _) (b.1 g))

  -- a branch that can end
  pub record Branch (opens : List ℕ) (i : ℤ) (bs : BranchTrees) : Type 0 where
    pub number : ℕ
    pub there : number < count (flat_branches roles n opens i bs)
    pub does : List (ℕ × Action)
    pub across : Across w (branch_at number (flat_branches roles n opens i bs)) does stop

  mutual
    pub stmt_passes : (opens : List ℕ) (i : ℤ) (m : Mark) (s : StmtTree) → can_end s ≡ true → has_simple_items s ≡ true → Passed (flat_stmt roles n opens i m s)
    stmt_passes opens i m (T.message l f t) h k = (_, λ g. by_message at_once)
    stmt_passes opens i m (T.foreach b x items) h k = each_pass opens items (range (value b.low n i) (value b.high n i)) k
    stmt_passes opens i m (T.loop id x body) h k = let b = block_passes (id ∷ opens) i body h k in (b.0 ++ [], λ g. by_loop (b.1 stop) at_once)
    stmt_passes opens i m (T.again id) h k = cc
    stmt_passes opens i m (T.choice kern e bs) h k = let b = branch_passes opens i bs h k in (_, λ g. by_choice b.number b.there b.across at_once)
    stmt_passes opens i m (T.run kern e) h k = (_, λ g. by_compute at_once)
    stmt_passes opens i m T.barrier h k = (_, λ g. by_together at_once)
    stmt_passes opens i m (T.broadcast l e) h k = (_, λ g. by_together at_once)
    stmt_passes opens i m (T.reduce l op e) h k = (_, λ g. by_together at_once)
    stmt_passes opens i m (T.allreduce l op) h k = (_, λ g. by_together at_once)

    pub block_passes : (opens : List ℕ) (i : ℤ) (b : BlockTree) → all_can_end b ≡ true → have_simple_items b ≡ true → Passed (flat_block roles n opens i b)
    block_passes opens i T.nothing h k = ([], λ g. at_once)
    block_passes opens i (T.more m s b) h k =
        let hs = and_parts (can_end s) (all_can_end b) h in
        let ks = and_parts (has_simple_items s) (have_simple_items b) k in
        let x = stmt_passes opens i m s hs.0 ks.0 in
        let y = block_passes opens i b hs.1 ks.1 in
        (x.0 ++ y.0, λ g. across_on w (x.1 _) (y.1 g))

    pub branch_passes : (opens : List ℕ) (i : ℤ) (bs : BranchTrees) → some_can_end bs ≡ true → branches_have_simple_items bs ≡ true → Branch opens i bs
    branch_passes opens i T.no_branch h k = cc
    branch_passes opens i (T.branch m b bs) h k =
        let ks = and_parts (have_simple_items b) (branches_have_simple_items bs) k in
        elim (cases (all_can_end b)) [
          | inl e ↦ (let r = block_passes opens i b e ks.0 in record { number = 0; there = omega arith; does = r.0; across = r.1 stop })
          | inr e ↦ (let r = branch_passes opens i bs (other (all_can_end b) (some_can_end bs) h e) ks.1 in record { number = suc r.number; there = (let lt = r.there in omega arith); does = r.does; across = r.across })
        ]
      where
        other : (x y : Bool) → x || y ≡ true → x ≡ false → y ≡ true
        other x y h e = grind arith
