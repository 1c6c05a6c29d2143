-- What keeps the numbers of a core small has it of all its parts; and a core that is sound has it.
use Rattle.std.proofs.Common.{◌≡◌, ◌≤◌, ◌<◌, ℕ, zero, suc, Bool, true, false, ◌&&◌, nat_eq, nat_lt, nat_le, List, [], ◌∷◌, map, drop, length, slice_index_or, refl, ap, sym, subst, ◌∙◌, arith, Vec, Bor}
use Rattle.std.proofs.lemmas.Bool.{and_from, and_parts}
use Rattle.std.proofs.lemmas.Bool.Decides.{nat_tests}
use Rattle.std.specs.List.{All}
use Rattle.std.specs.declared.alloc.Global.{Global}
use Rattle.pb_affine.specs.declared.lin.Lin.{Lin}
use Rattle.pb_core_language.specs.declared.protocol.Core.{Core}
use Rattle.pb_core_language.specs.declared.tree.CoreEnd.{CoreEnd}
use Rattle.pb_core_language.specs.declared.tree.CoreBlock.{CoreBlock, out-CoreBlock}
use Rattle.pb_core_language.specs.declared.tree.CoreStmt.{CoreStmt}
use Rattle.pb_core_language.specs.declared.tree.CoreKind.TheVariants.{Foreach, Loop, Again, Choice}
use Rattle.pb_core_language.specs.Tree.{StmtTree, message, foreach, loop, again, choice, run, barrier, broadcast, reduce, allreduce, BlockTree, nothing, more, BranchTrees, no_branch, branch}
use Rattle.pb_core_language.specs.Plain.{plain, plain_block, plain_stmt, block_of, branches_of}
use Rattle.pb_core_language.specs.Sound.{Rows, rows_of, is_small, is_over_n, is_bound, is_end, is_item, has_branch, is_stmt, is_block, are_branches, is_range, are_roles, is_sound}
use Rattle.pb_plain.specs.declared.opens.Opens.{Opens, fold-roll-Opens}
use Rattle.pb_plain.specs.declared.opens.Opens.TheVariants as V
use Rattle.pb_plain.specs.declared.opens.Opens.TheOpen as O
use Rattle.pb_plain.specs.Loops.{ids_of, ids_layer}
use Rattle.pb_plain.specs.Small.{is_small_stmt, is_small_block, are_small_branches}
use Rattle.pb_core_language.proofs.Plains.{plain_foreach, plain_loop, plain_again, plain_choice, plain_list}

-- ---- loops around

pub ids_top : ids_of V.Top ≡ []
ids_top = ap ids_of (sym V.rolls-Top) ∙ fold-roll-Opens (List ℕ) ids_layer O.Top

pub ids_loop : (id : ℕ) (rest : Bor Opens) → ids_of (V.Loop id rest) ≡ id ∷ ids_of rest.now
ids_loop id rest = ap ids_of (sym (V.rolls-Loop id rest)) ∙ fold-roll-Opens (List ℕ) ids_layer (O.Loop id rest)

-- ---- parts of a statement

pub small_foreach : (s : CoreStmt) (low high : Lin) (b : CoreBlock) (depth : ℕ) → s.what ≡ Foreach low high b → is_small_stmt depth (plain_stmt s).stmt ≡ true →
    (is_over_n low.base ≡ true) × (is_over_n high.base ≡ true) × (is_small_block depth (plain_block b).block ≡ true)
small_foreach s low high b depth e h =
    let all : (is_over_n low.base && (is_over_n high.base && is_small_block depth (plain_block b).block)) ≡ true = sym (ap (is_small_stmt depth) (plain_foreach s low high b e)) ∙ h in
    let first = and_parts _ _ all in
    let second = and_parts _ _ first.1 in
    (first.0, second.0, second.1)

pub small_low : (s : CoreStmt) (low high : Lin) (b : CoreBlock) (depth : ℕ) → s.what ≡ Foreach low high b → is_small_stmt depth (plain_stmt s).stmt ≡ true → is_over_n low.base ≡ true
small_low s low high b depth e h = (small_foreach s low high b depth e h).0

pub small_high : (s : CoreStmt) (low high : Lin) (b : CoreBlock) (depth : ℕ) → s.what ≡ Foreach low high b → is_small_stmt depth (plain_stmt s).stmt ≡ true → is_over_n high.base ≡ true
small_high s low high b depth e h = (small_foreach s low high b depth e h).1

pub small_items : (s : CoreStmt) (low high : Lin) (b : CoreBlock) (depth : ℕ) → s.what ≡ Foreach low high b → is_small_stmt depth (plain_stmt s).stmt ≡ true → is_small_block depth (plain_block b).block ≡ true
small_items s low high b depth e h = (small_foreach s low high b depth e h).2

pub small_loop : (s : CoreStmt) (id : ℕ) (b : CoreBlock) (depth : ℕ) → s.what ≡ Loop id b → is_small_stmt depth (plain_stmt s).stmt ≡ true → is_small_block (suc depth) (plain_block b).block ≡ true
small_loop s id b depth e h = (and_parts _ _ (sym (ap (is_small_stmt depth) (plain_loop s id b e)) ∙ h)).1

pub small_body : (s : CoreStmt) (id : ℕ) (b : CoreBlock) (rest : Bor Opens) → s.what ≡ Loop id b → is_small_stmt (length (ids_of rest.now)) (plain_stmt s).stmt ≡ true →
    is_small_block (length (ids_of (V.Loop id rest))) (plain_block b).block ≡ true
small_body s id b rest e h =
    ap (λ ids. is_small_block (length ids) (plain_block b).block) (ids_loop id rest) ∙ small_loop s id b (length (ids_of rest.now)) e h

-- the body of a loop, of which only the body is known
pub small_inside : (id : ℕ) (b : CoreBlock) (rest : Bor Opens) → is_small_block (suc (length (ids_of rest.now))) (plain_block b).block ≡ true →
    is_small_block (length (ids_of (V.Loop id rest))) (plain_block b).block ≡ true
small_inside id b rest h = ap (λ ids. is_small_block (length ids) (plain_block b).block) (ids_loop id rest) ∙ h

pub few_loops : (s : CoreStmt) (id : ℕ) (depth : ℕ) → s.what ≡ Again id → is_small_stmt depth (plain_stmt s).stmt ≡ true → depth ≤ 64
few_loops s id depth e h =
    let few : nat_le depth 64 ≡ true = sym (ap (is_small_stmt depth) (plain_again s id e)) ∙ h in
    grind (arith, nat_tests)

pub small_branches : (s : CoreStmt) (k : ℕ) (at : CoreEnd) (bs : Vec CoreBlock Global) (depth : ℕ) → s.what ≡ Choice k at bs → is_small_stmt depth (plain_stmt s).stmt ≡ true →
    are_small_branches depth (branches_of (map plain_block bs.items)) ≡ true
small_branches s k at bs depth e h = sym (ap (is_small_stmt depth) (plain_choice s k at bs e)) ∙ h

-- ---- elements of lists

pub element : (ss : List CoreStmt) (k depth : ℕ) (z : CoreStmt) → k < length ss → is_small_block depth (block_of (map plain_stmt ss)) ≡ true → is_small_stmt depth (plain_stmt (slice_index_or ss k z)).stmt ≡ true
element [] k depth z lt h = absurd (omega arith)
element (s ∷ ss) zero depth z lt h = (and_parts _ _ h).0
element (s ∷ ss) (suc k) depth z lt h = element ss k depth z (omega arith) ((and_parts _ _ h).1)

pub statements_small : (b : CoreBlock) (depth : ℕ) → is_small_block depth (plain_block b).block ≡ true → is_small_block depth (block_of (map plain_stmt (out-CoreBlock b).list.items)) ≡ true
statements_small b depth h = sym (ap (is_small_block depth) (plain_list b)) ∙ h

pub small_at : (b : CoreBlock) (k depth : ℕ) (z : CoreStmt) → k < length (out-CoreBlock b).list.items → is_small_block depth (plain_block b).block ≡ true →
    is_small_stmt depth (plain_stmt (slice_index_or (out-CoreBlock b).list.items k z)).stmt ≡ true
small_at b k depth z lt h = element (out-CoreBlock b).list.items k depth z lt (statements_small b depth h)

pub one_branch : (bs : List CoreBlock) (k depth : ℕ) (z : CoreBlock) → k < length bs → are_small_branches depth (branches_of (map plain_block bs)) ≡ true →
    is_small_block depth (plain_block (slice_index_or bs k z)).block ≡ true
one_branch [] k depth z lt h = absurd (omega arith)
one_branch (b ∷ bs) zero depth z lt h = (and_parts _ _ h).0
one_branch (b ∷ bs) (suc k) depth z lt h = one_branch bs k depth z (omega arith) ((and_parts _ _ h).1)

pub small_branch_at : (s : CoreStmt) (kernel : ℕ) (at : CoreEnd) (bs : Vec CoreBlock Global) (k depth : ℕ) (z : CoreBlock) → s.what ≡ Choice kernel at bs → k < length bs.items →
    is_small_stmt depth (plain_stmt s).stmt ≡ true → is_small_block depth (plain_block (slice_index_or bs.items k z)).block ≡ true
small_branch_at s kernel at bs k depth z e lt h = one_branch bs.items k depth z lt (small_branches s kernel at bs depth e h)

pub small_is : (b : CoreBlock) (k depth : ℕ) (s : CoreStmt) → is_small_block depth (plain_block b).block ≡ true → s ≡ slice_index_or (out-CoreBlock b).list.items k s → k < length (out-CoreBlock b).list.items →
    is_small_stmt depth (plain_stmt s).stmt ≡ true
small_is b k depth s h e lt = subst (λ x. is_small_stmt depth (plain_stmt x).stmt ≡ true) (sym e) (small_at b k depth s lt h)

pub small_branch_is : (s : CoreStmt) (kernel : ℕ) (at : CoreEnd) (bs : Vec CoreBlock Global) (k depth : ℕ) (b : CoreBlock) → s.what ≡ Choice kernel at bs →
    is_small_stmt depth (plain_stmt s).stmt ≡ true → b ≡ slice_index_or bs.items k b → k < length bs.items → is_small_block depth (plain_block b).block ≡ true
small_branch_is s kernel at bs k depth b is h e lt =
    subst (λ x. is_small_block depth (plain_block x).block ≡ true) (sym e) (small_branch_at s kernel at bs k depth b is lt h)

pub all_small : (b : CoreBlock) (depth : ℕ) → is_small_block depth (plain_block b).block ≡ true → All (λ s. is_small_stmt depth (plain_stmt s).stmt ≡ true) (out-CoreBlock b).list.items
all_small b depth h = λ k z lt. small_at b k depth z lt h

pub all_small_branches : (s : CoreStmt) (kernel : ℕ) (at : CoreEnd) (bs : Vec CoreBlock Global) (depth : ℕ) → s.what ≡ Choice kernel at bs → is_small_stmt depth (plain_stmt s).stmt ≡ true →
    All (λ b. is_small_block depth (plain_block b).block ≡ true) bs.items
all_small_branches s kernel at bs depth is h = λ k z lt. small_branch_at s kernel at bs k depth z is lt h

-- ---- a core that is sound

next_few : (n : ℕ) → nat_lt n 64 ≡ true → nat_le (suc n) 64 ≡ true
next_few n h = grind (arith, nat_tests)

over_bound : (l : Lin) → is_bound l ≡ true → is_over_n l.base ≡ true
over_bound l h = (and_parts _ _ h).0

mutual
  stmt_small : (rows : Rows) (varies : Bool) (opens : List ℕ) (s : StmtTree) → nat_le (length opens) 64 ≡ true → is_stmt rows varies opens s ≡ true → is_small_stmt (length opens) s ≡ true
  stmt_small rows varies opens (message l f t) few h = refl
  stmt_small rows varies opens (foreach b m items) few h =
      let first = and_parts _ _ h in
      let second = and_parts _ _ first.1 in
      and_from _ _ (over_bound b.low first.0) (and_from _ _ (over_bound b.high second.0) (block_small rows true opens items few second.1))
  stmt_small rows varies opens (loop id m body) few h =
      let first = and_parts _ _ h in
      and_from _ _ first.0 (block_small rows false (id ∷ opens) body (next_few (length opens) first.0) first.1)
  stmt_small rows varies opens (again id) few h = few
  stmt_small rows varies opens (choice k at bs) few h =
      let first = and_parts (nat_lt k rows.kernels) (is_end rows false at && (has_branch bs && are_branches rows opens bs)) h in
      let second = and_parts (is_end rows false at) (has_branch bs && are_branches rows opens bs) first.1 in
      let third = and_parts (has_branch bs) (are_branches rows opens bs) second.1 in
      branches_small rows opens bs few third.1
  stmt_small rows varies opens (run k at) few h = refl
  stmt_small rows varies opens barrier few h = refl
  stmt_small rows varies opens (broadcast l root) few h = refl
  stmt_small rows varies opens (reduce l op root) few h = refl
  stmt_small rows varies opens (allreduce l op) few h = refl

  block_small : (rows : Rows) (varies : Bool) (opens : List ℕ) (b : BlockTree) → nat_le (length opens) 64 ≡ true → is_block rows varies opens b ≡ true → is_small_block (length opens) b ≡ true
  block_small rows varies opens nothing few h = refl
  block_small rows varies opens (more m s rest) few h =
      let first = and_parts _ _ h in
      let second = and_parts _ _ first.1 in
      and_from _ _ (stmt_small rows varies opens s few second.0) (block_small rows varies opens rest few second.1)

  branches_small : (rows : Rows) (opens : List ℕ) (bs : BranchTrees) → nat_le (length opens) 64 ≡ true → are_branches rows opens bs ≡ true → are_small_branches (length opens) bs ≡ true
  branches_small rows opens no_branch few h = refl
  branches_small rows opens (branch m b bs) few h =
      let first = and_parts _ _ h in
      and_from _ _ (block_small rows false opens b few first.0) (branches_small rows opens bs few first.1)

pub sound_small : (core : Core) → is_sound (plain core) ≡ true → is_small_block (length (ids_of V.Top)) (plain_block core.body).block ≡ true
sound_small core h =
    let first = and_parts _ _ h in
    let second = and_parts _ _ first.1 in
    let third = and_parts (are_roles (plain core).roles) (is_block (rows_of (plain core)) false [] (plain core).body.block) second.1 in
    ap (λ ids. is_small_block (length ids) (plain_block core.body).block) ids_top ∙ block_small (rows_of (plain core)) false [] (plain_block core.body).block refl third.1
