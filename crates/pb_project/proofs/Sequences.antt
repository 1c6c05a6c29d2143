-- A block, a statement at a time, and branches, one at a time.
use Rattle.std.proofs.Common.{◌≡◌, ◌<◌, ◌≤◌, ◌+◌, ◌*◌, ℕ, suc, max, Bool, true, false, nat_eq, ◌||◌, if◌then◌else◌, Some, None, List, [], ◌∷◌, ◌++◌, map, drop, get_or, length, refl, sym, ap, ◌∙◌, subst, drop_of_length-le, inl, inr, arith, Vec}
use Rattle.std.specs.declared.alloc.Global.{Global}
use Rattle.std.specs.List.{list_any, Contains}
use Rattle.std.proofs.lemmas.List.{map-append}
use Rattle.pb_core_language.specs.declared.tree.CoreBlock.{CoreBlock, out-CoreBlock}
use Rattle.pb_core_language.specs.declared.tree.CoreStmt.{CoreStmt}
use Rattle.pb_core_language.specs.FlatOf.{between}
use Rattle.pb_core_language.specs.Plain.{plain_stmt, plain_block, block_of, branches_of}
use Rattle.pb_core_language.specs.Tree as T
use Rattle.pb_core_language.specs.Tree.{Mark, StmtTree, message, foreach, loop, again, choice, run, barrier, broadcast, reduce, allreduce, BlockTree, BranchTrees}
use Rattle.pb_local.specs.declared.stmt.Stmt.{Stmt}
use Rattle.pb_local.specs.Tree as L
use Rattle.pb_local.specs.WellMade.{ArePartsMade}
use Rattle.pb_local.specs.Tree.{Code, Codes, Parts, part, no_part, nothing, more, plain, plain_all}
use Rattle.pb_part_takers.specs.Loops.{ids_of}
use Rattle.pb_part_takers.proofs.HeldLoops.{from_place}
use Rattle.pb_core_language.proofs.Plains.{plain_list}
use Rattle.pb_project_piece.specs.Adding.{onto, Added}
use Rattle.pb_project_piece.proofs.Added.{onto_append, onto_nothing}
use Rattle.pb_rules.proofs.Lists.{Has, contains}
use Rattle.pb_shape.specs.Shape as S
use Rattle.pb_shape.specs.Places.{scope_of}
use Rattle.pb_shape.specs.Guards.{alone}
use Rattle.pb_shape.specs.Loops.{number_at}
use Rattle.pb_project.specs.Blocks.{behind, IsStmtOf, IsBlockOf, ArePartsOf, parts_now}
use Rattle.pb_project.specs.Places.{Known}
use Rattle.pb_project.specs.Takers.{back_to}
use Rattle.pb_core_language.specs.Sound.{rows_of}
use Rattle.pb_project.proofs.GoodParts.{no_continue, good_first, good_rest, good_again}
use Rattle.pb_project.proofs.Reaching.{first_reached, rest_reached, branch_reached, others_reached}

none_more : (n : ℕ) → n + 0 ≡ n
none_more n = omega arith

one_more : (a b : ℕ) → a ≡ b → suc a ≡ 1 + b
one_more a b e = omega (arith, e)

-- ---- a statement before the rest

sizes_end : (s r t u : ℕ) → s ≤ r + t → t ≤ u → s ≤ r + u
sizes_end s r t u h k = omega (arith, h, k)

deeper : (b d t u : ℕ) → b ≤ max (2 * d + 1) t → t ≤ 2 * u + 1 → b ≤ 2 * max d u + 1
deeper b d t u h k = omega (arith, h, k)

pub stmt_before : (k : Known) (before mid after : ℕ) (m : Mark) (s : StmtTree) (rest : BlockTree) (piece : List Code) (tail : Codes) → back_to s ≡ None →
    IsStmtOf k before mid m s piece → IsBlockOf k mid after rest tail → IsBlockOf k before after (T.more m s rest) (onto piece tail)
stmt_before k before mid after m s rest piece tail goes one others = record {
  shape = λ p l cuts a h place fair reached.
      let first = good_first p cuts a m s rest goes fair in
      one.shape p l cuts a h place first (first_reached (scope_of p) a h (rows_of p) a.opens m s rest first.fair.sound reached) rest tail
      (others.shape p l cuts a h place (good_rest p cuts a m s rest goes fair) (rest_reached (scope_of p) a h (rows_of p) a.opens m s rest first.fair.sound (no_continue s goes) reached));
  made = λ p l cuts a place fair. one.made p l cuts a place (good_first p cuts a m s rest goes fair) tail (others.made p l cuts a place (good_rest p cuts a m s rest goes fair));
  loops = one.loops tail ∙ others.loops;
  size = sizes_end _ _ _ _ (one.size tail) others.size;
  braces = deeper _ _ _ _ (one.braces tail) others.braces;
}

pub none_of : (k : Known) (before : ℕ) → IsBlockOf k before before T.nothing nothing
none_of k before = record {
  shape = λ p l cuts a h place fair reached. S.none;
  made = λ p l cuts a place fair. tt;
  loops = none_more before;
  size = omega arith;
  braces = omega arith;
}

-- ---- a continue

number_in : (id : ℕ) (opens numbers : List ℕ) → list_any (nat_eq id) opens ≡ true → length numbers ≡ length opens → Has numbers (number_at numbers (between id opens))
number_in id [] numbers h e = cc
number_in id (o ∷ os) [] h e = absurd (let t : 0 ≡ suc (length os) = e in omega (arith, t))
number_in id (o ∷ os) (x ∷ xs) h e = at (nat_eq id o) h (λ k. number_in id os xs k (let t : suc (length xs) ≡ suc (length os) = e in omega (arith, t)))
  where
    at : (b : Bool) → b || list_any (nat_eq id) os ≡ true → (list_any (nat_eq id) os ≡ true → Has xs (number_at xs (between id os))) → Has (x ∷ xs) (number_at (x ∷ xs) (if b then 0 else suc (between id os)))
    at true k f = inl refl
    at false k f = inr (f k)

pub continue_of : (k : Known) (before : ℕ) (m : Mark) (id : ℕ) (rest : BlockTree) → IsBlockOf k before before (T.more m (again id) rest) (alone (L.again (number_at k.numbers (between id (ids_of k.held)))))
continue_of k before m id rest = record {
  shape = λ p l cuts a h place fair reached. subst (λ o. S.Shape (scope_of p) h a (T.more m (again id) rest) (alone (L.again (number_at k.numbers (between id o))))) place.around.opens
      (subst (λ ns. S.Shape (scope_of p) h a (T.more m (again id) rest) (alone (L.again (number_at ns (between id a.opens))))) place.numbers_are (S.again reached.some));
  made = λ p l cuts a place fair. (
    subst (λ o. Contains k.numbers (number_at k.numbers (between id o))) place.around.opens
        (contains k.numbers (number_at k.numbers (between id a.opens)) (number_in id a.opens k.numbers (good_again p cuts a m id rest fair) place.as_many)),
    tt,
  );
  loops = none_more before;
  size = omega arith;
  braces = omega arith;
}

is_continue : (s : StmtTree) (id : ℕ) → back_to s ≡ Some id → s ≡ again id
is_continue (message l f t) id h = cc
is_continue (foreach b m items) id h = cc
is_continue (loop j m body) id h = cc
is_continue (again j) id h = cc
is_continue (choice k at bs) id h = cc
is_continue (run k at) id h = cc
is_continue barrier id h = cc
is_continue (broadcast l root) id h = cc
is_continue (reduce l op root) id h = cc
is_continue (allreduce l op) id h = cc

-- ---- a block

pub record BlockSoFar (k : Known) (items : List CoreStmt) (i before mid : ℕ) (out : List Stmt) : Type 0 where
  pub rest : (after : ℕ) (tail : Codes) → IsBlockOf k mid after (block_of (map plain_stmt (drop i items))) tail → IsBlockOf k before after (block_of (map plain_stmt items)) (onto (map plain out) tail)

pub block_step : (k : Known) (items : List CoreStmt) (i : ℕ) (x : CoreStmt) (before mid next : ℕ) (out new : List Stmt) → i < length items → x ≡ get_or items i x → back_to (plain_stmt x).stmt ≡ None →
    (back_to (plain_stmt x).stmt ≡ None → Added out new (IsStmtOf k mid next (plain_stmt x).mark (plain_stmt x).stmt)) → BlockSoFar k items i before mid out → BlockSoFar k items (i + 1) before next new
block_step k items i x before mid next out new lt is goes adds so_far = record {
  rest = λ after tail h.
      let added = adds goes in
      let all = block_of (map plain_stmt items) in
      let piece = added.piece in
      subst (λ cs. IsBlockOf k before after all (onto cs tail)) (sym added.is)
      (subst (λ cs. IsBlockOf k before after all cs) (sym (onto_append (map plain out) piece tail))
      (so_far.rest after (onto piece tail)
      (subst (λ z. IsBlockOf k mid after (block_of (map plain_stmt z)) (onto piece tail)) (sym (from_place items i x lt is))
      (stmt_before k mid next after (plain_stmt x).mark (plain_stmt x).stmt (block_of (map plain_stmt (drop (i + 1) items))) piece tail goes added.has h))));
}

-- all statements from here on are those of the block
ended : (k : Known) (b : CoreBlock) (items : List CoreStmt) (before after : ℕ) (codes : Codes) → items ≡ (out-CoreBlock b).list.items → IsBlockOf k before after (block_of (map plain_stmt items)) codes → IsBlockOf k before after (plain_block b).block codes
ended k b items before after codes same h = subst (λ z. IsBlockOf k before after z codes) (ap (λ z. block_of (map plain_stmt z)) same ∙ sym (plain_list b)) h

pub block_done : (k : Known) (b : CoreBlock) (items : List CoreStmt) (i before mid : ℕ) (out : List Stmt) → items ≡ (out-CoreBlock b).list.items → length items ≤ i → BlockSoFar k items i before mid out → IsBlockOf k before mid (plain_block b).block (plain_all out)
block_done k b items i before mid out same le so_far =
    ended k b items before mid (plain_all out) same
    (subst (λ cs. IsBlockOf k before mid (block_of (map plain_stmt items)) cs) (onto_nothing (map plain out))
    (so_far.rest mid nothing (subst (λ z. IsBlockOf k mid mid (block_of (map plain_stmt z)) nothing) (sym (drop_of_length-le items le)) (none_of k mid))))

-- it ends with a continue
pub block_stops : (k : Known) (b : CoreBlock) (items : List CoreStmt) (i : ℕ) (x : CoreStmt) (id before mid : ℕ) (out new : List Stmt) (s : Stmt) → items ≡ (out-CoreBlock b).list.items → i < length items → x ≡ get_or items i x →
    back_to (plain_stmt x).stmt ≡ Some id → new ≡ out ++ s ∷ [] → plain s ≡ L.again (number_at k.numbers (between id (ids_of k.held))) → BlockSoFar k items i before mid out → IsBlockOf k before mid (plain_block b).block (plain_all new)
block_stops k b items i x id before mid out new s same lt is stops adds made so_far =
    let c = L.again (number_at k.numbers (between id (ids_of k.held))) in
    let codes : map plain new ≡ map plain out ++ c ∷ [] = ap (map plain) adds ∙ map-append plain out (s ∷ []) ∙ ap (λ d. map plain out ++ d ∷ []) made in
    let tree : block_of (map plain_stmt (drop i items)) ≡ T.more (plain_stmt x).mark (again id) (block_of (map plain_stmt (drop (i + 1) items)))
    = ap (λ z. block_of (map plain_stmt z)) (from_place items i x lt is) ∙ ap (λ t. T.more (plain_stmt x).mark t (block_of (map plain_stmt (drop (i + 1) items)))) (is_continue (plain_stmt x).stmt id stops) in
    ended k b items before mid (plain_all new) same
    (subst (λ cs. IsBlockOf k before mid (block_of (map plain_stmt items)) cs) (onto_nothing (map plain new))
    (subst (λ cs. IsBlockOf k before mid (block_of (map plain_stmt items)) (onto cs nothing)) (sym codes)
    (subst (λ cs. IsBlockOf k before mid (block_of (map plain_stmt items)) cs) (sym (onto_append (map plain out) (c ∷ []) nothing))
    (so_far.rest mid (alone c) (subst (λ z. IsBlockOf k mid mid z (alone c)) (sym tree) (continue_of k mid (plain_stmt x).mark id (block_of (map plain_stmt (drop (i + 1) items)))))))))

-- ---- branches

-- parts before others
abbrev pub parts_onto : List (Vec Stmt Global) → Parts → Parts
parts_onto [] tail = tail
parts_onto (v ∷ vs) tail = part (plain_all v.items) (parts_onto vs tail)

pub record PartsSoFar (k : Known) (branches : List CoreBlock) (i before mid : ℕ) (out : List (Vec Stmt Global)) : Type 0 where
  pub rest : (after : ℕ) (tail : Parts) → ArePartsOf k mid after (branches_of (map plain_block (drop i branches))) tail → ArePartsOf k before after (branches_of (map plain_block branches)) (parts_onto out tail)

-- ---- one branch before others

added_loops : (a b c l t : ℕ) → a + l ≡ b → b + t ≡ c → a + (l + t) ≡ c
added_loops a b c l t e f = omega (arith, e, f)

added_sizes : (s r t u : ℕ) → s ≤ r → t ≤ u → s + t ≤ r + u
added_sizes s r t u h k = omega (arith, h, k)

wider : (b d t u : ℕ) → b ≤ 2 * d + 1 → t ≤ 2 * u + 1 → max b t ≤ 2 * max d u + 1
wider b d t u h k = omega (arith, h, k)

pub branch_before : (k : Known) (before mid after : ℕ) (m : Mark) (b : BlockTree) (bs : BranchTrees) (codes : Codes) (tail : Parts) → IsBlockOf k before mid b codes → ArePartsOf k mid after bs tail →
    ArePartsOf k before after (T.branch m b bs) (part codes tail)
branch_before k before mid after m b bs codes tail one others = record {
  shape = λ p l cuts a h place fair reached.
      S.branch (one.shape p l cuts a h place fair.0 (branch_reached (scope_of p) a h m b bs reached)) (others.shape p l cuts a h place fair.1 (others_reached (scope_of p) a h m b bs reached));
  made = λ p l cuts a place fair. (one.made p l cuts a place fair.0, subst (λ n. ArePartsMade l (behind n k.numbers) tail) (sym one.loops) (others.made p l cuts a place fair.1));
  loops = added_loops _ _ _ _ _ one.loops others.loops;
  size = added_sizes _ _ _ _ one.size others.size;
  braces = wider _ _ _ _ one.braces others.braces;
  many = one_more _ _ others.many;
}

pub no_parts : (k : Known) (before : ℕ) → ArePartsOf k before before T.no_branch no_part
no_parts k before = record {
  shape = λ p l cuts a h place fair reached. S.no_shape;
  made = λ p l cuts a place fair. tt;
  loops = none_more before;
  size = omega arith;
  braces = omega arith;
  many = refl;
}

parts_append : (xs : List (Vec Stmt Global)) (v : Vec Stmt Global) (tail : Parts) → parts_onto (xs ++ v ∷ []) tail ≡ parts_onto xs (part (plain_all v.items) tail)
parts_append [] v tail = refl
parts_append (x ∷ xs) v tail = ap (part (plain_all x.items)) (parts_append xs v tail)

parts_are : (xs : List (Vec Stmt Global)) → parts_onto xs no_part ≡ parts_now xs
parts_are [] = refl
parts_are (x ∷ xs) = ap (part (plain_all x.items)) (parts_are xs)

pub parts_step : (k : Known) (branches : List CoreBlock) (i : ℕ) (x : CoreBlock) (before mid next : ℕ) (out new : List (Vec Stmt Global)) (v : Vec Stmt Global) → i < length branches → x ≡ get_or branches i x →
    new ≡ out ++ v ∷ [] → IsBlockOf k mid next (plain_block x).block (plain_all v.items) → PartsSoFar k branches i before mid out → PartsSoFar k branches (i + 1) before next new
parts_step k branches i x before mid next out new v lt is adds one so_far = record {
  rest = λ after tail h.
      let all = branches_of (map plain_block branches) in
      subst (λ ps. ArePartsOf k before after all (parts_onto ps tail)) (sym adds)
      (subst (λ ps. ArePartsOf k before after all ps) (sym (parts_append out v tail))
      (so_far.rest after (part (plain_all v.items) tail)
      (subst (λ z. ArePartsOf k mid after (branches_of (map plain_block z)) (part (plain_all v.items) tail)) (sym (from_place branches i x lt is))
      (branch_before k mid next after (plain_block x).mark (plain_block x).block (branches_of (map plain_block (drop (i + 1) branches))) (plain_all v.items) tail one h))));
}

pub parts_done : (k : Known) (branches : List CoreBlock) (i before mid : ℕ) (out : List (Vec Stmt Global)) → length branches ≤ i → PartsSoFar k branches i before mid out → ArePartsOf k before mid (branches_of (map plain_block branches)) (parts_now out)
parts_done k branches i before mid out le so_far =
    subst (λ ps. ArePartsOf k before mid (branches_of (map plain_block branches)) ps) (parts_are out)
    (so_far.rest mid no_part (subst (λ z. ArePartsOf k mid mid (branches_of (map plain_block z)) no_part) (sym (drop_of_length-le branches le)) (no_parts k mid)))
