-- One statement more, or one branch more, of what is built.
use Rattle.std.proofs.Common.{◌≡◌, ℕ, suc, ◌+◌, ◌<◌, ◌≤◌, List, [], ◌∷◌, ◌++◌, length, map, drop, get_or, refl, sym, ap, ap₂, ◌∙◌, arith}
use Rattle.std.proofs.lemmas.List.{drop_more}
use Rattle.std.proofs.Math.ListN.{drop_of_length-le}
use Rattle.pb_syntax.specs.declared.tree.Block.{Block}
use Rattle.pb_syntax.specs.declared.tree.Statement.{Statement}
use Rattle.pb_syntax.specs.Plain as F
use Rattle.pb_syntax.specs.Tree.{statements_of, branches_of}
use Rattle.pb_core_language.specs.declared.tree.CoreBlock.{CoreBlock}
use Rattle.pb_core_language.specs.declared.tree.CoreStmt.{CoreStmt}
use Rattle.pb_core_language.specs.FileRules.{place_of}
use Rattle.pb_core_language.specs.Plain as P
use Rattle.pb_core_language.specs.Tree.{BlockTree, nothing, more, BranchTrees, no_branch, branch}
use Rattle.pb_core_language.specs.Meaning as M
use Rattle.pb_core_language.specs.Meaning.{Table, Open}
use Rattle.pb_core.specs.Building.{stmt_with, block_with, before_block, before_branches}

pub drop_next : {A : Type 0} (xs : List A) (i : ℕ) (x : A) → i < length xs → x ≡ get_or xs i x → drop i xs ≡ x ∷ drop (i + 1) xs
drop_next xs i x lt is = drop_more xs i x lt ∙ ap (λ v. v ∷ drop (i + 1) xs) (sym is)

before_last : (built : List CoreStmt) (one : CoreStmt) (rest : BlockTree) →
    before_block (map P.plain_stmt (built ++ one ∷ [])) rest ≡ before_block (map P.plain_stmt built) (more (P.plain_stmt one).mark (P.plain_stmt one).stmt rest)
before_last [] one rest = refl
before_last (s ∷ ss) one rest = ap (λ r. more (P.plain_stmt s).mark (P.plain_stmt s).stmt r) (before_last ss one rest)

before_none : (list : List P.MarkedStmt) → before_block list nothing ≡ P.block_of list
before_none [] = refl
before_none (s ∷ ss) = ap (λ r. more s.mark s.stmt r) (before_none ss)

pub list_step : (t : Table) (opens : List Open) (xs : List Statement) (i : ℕ) (x : Statement) (built new : List CoreStmt) (one : CoreStmt) (s b s2 b2 : ℕ) (whole : BlockTree) →
    i < length xs → x ≡ get_or xs i x → new ≡ built ++ (one ∷ []) → P.plain_stmt one ≡ stmt_with t opens s b (F.plain_statement x) →
    s2 ≡ s + M.stmts_at (F.plain_statement x) → b2 ≡ b + M.blocks_at (F.plain_statement x) →
    before_block (map P.plain_stmt built) (M.block_of t opens s b (statements_of (map F.plain_statement (drop i xs)))) ≡ whole →
    before_block (map P.plain_stmt new) (M.block_of t opens s2 b2 (statements_of (map F.plain_statement (drop (i + 1) xs)))) ≡ whole
list_step t opens xs i x built new one s b s2 b2 whole lt is pushed made es eb so_far =
    let rest = statements_of (map F.plain_statement (drop (i + 1) xs)) in
    let front = map P.plain_stmt built in
    ap (λ n. before_block (map P.plain_stmt n) (M.block_of t opens s2 b2 rest)) pushed
    ∙ before_last built one (M.block_of t opens s2 b2 rest)
    ∙ ap (λ m. before_block front (more m.mark m.stmt (M.block_of t opens s2 b2 rest))) made
    ∙ ap₂ (λ u v. before_block front (more (M.mark s (place_of (F.plain_statement x))) (M.stmt_of t opens s b (F.plain_statement x)) (M.block_of t opens u v rest))) es eb
    ∙ sym (ap (λ l. before_block front (M.block_of t opens s b (statements_of (map F.plain_statement l)))) (drop_next xs i x lt is))
    ∙ so_far

pub list_done : (t : Table) (opens : List Open) (xs : List Statement) (i : ℕ) (built : List CoreStmt) (s b : ℕ) (whole : BlockTree) → length xs ≤ i →
    before_block (map P.plain_stmt built) (M.block_of t opens s b (statements_of (map F.plain_statement (drop i xs)))) ≡ whole →
    P.block_of (map P.plain_stmt built) ≡ whole
list_done t opens xs i built s b whole le so_far =
    sym (before_none (map P.plain_stmt built))
    ∙ sym (ap (λ l. before_block (map P.plain_stmt built) (M.block_of t opens s b (statements_of (map F.plain_statement l)))) (drop_of_length-le xs le))
    ∙ so_far

pub stmts_step : (xs : List Statement) (i : ℕ) (x : Statement) (s s2 total : ℕ) → i < length xs → x ≡ get_or xs i x → s2 ≡ s + M.stmts_at (F.plain_statement x) →
    s + M.stmts_in (statements_of (map F.plain_statement (drop i xs))) ≡ total → s2 + M.stmts_in (statements_of (map F.plain_statement (drop (i + 1) xs))) ≡ total
stmts_step xs i x s s2 total lt is es h =
    let e : M.stmts_in (statements_of (map F.plain_statement (drop i xs))) ≡ M.stmts_at (F.plain_statement x) + M.stmts_in (statements_of (map F.plain_statement (drop (i + 1) xs)))
    = ap (λ l. M.stmts_in (statements_of (map F.plain_statement l))) (drop_next xs i x lt is) in
    omega (arith, e, es, h)

pub blocks_step : (xs : List Statement) (i : ℕ) (x : Statement) (b b2 total : ℕ) → i < length xs → x ≡ get_or xs i x → b2 ≡ b + M.blocks_at (F.plain_statement x) →
    b + M.blocks_in (statements_of (map F.plain_statement (drop i xs))) ≡ total → b2 + M.blocks_in (statements_of (map F.plain_statement (drop (i + 1) xs))) ≡ total
blocks_step xs i x b b2 total lt is eb h =
    let e : M.blocks_in (statements_of (map F.plain_statement (drop i xs))) ≡ M.blocks_at (F.plain_statement x) + M.blocks_in (statements_of (map F.plain_statement (drop (i + 1) xs)))
    = ap (λ l. M.blocks_in (statements_of (map F.plain_statement l))) (drop_next xs i x lt is) in
    omega (arith, e, eb, h)

branches_last : (built : List CoreBlock) (one : CoreBlock) (rest : BranchTrees) →
    before_branches (map P.plain_block (built ++ one ∷ [])) rest ≡ before_branches (map P.plain_block built) (branch (P.plain_block one).mark (P.plain_block one).block rest)
branches_last [] one rest = refl
branches_last (b ∷ bs) one rest = ap (λ r. branch (P.plain_block b).mark (P.plain_block b).block r) (branches_last bs one rest)

branches_none : (list : List P.MarkedBlock) → before_branches list no_branch ≡ P.branches_of list
branches_none [] = refl
branches_none (b ∷ bs) = ap (λ r. branch b.mark b.block r) (branches_none bs)

pub branches_step : (t : Table) (opens : List Open) (xs : List Block) (i : ℕ) (x : Block) (built new : List CoreBlock) (one : CoreBlock) (s b s2 b2 : ℕ) (whole : BranchTrees) →
    i < length xs → x ≡ get_or xs i x → new ≡ built ++ (one ∷ []) → P.plain_block one ≡ block_with t opens s b (F.plain_block x) →
    s2 ≡ s + M.stmts_in (F.plain_block x).list → b2 ≡ b + (1 + M.blocks_in (F.plain_block x).list) →
    before_branches (map P.plain_block built) (M.branches_of t opens s b (branches_of (map F.plain_block (drop i xs)))) ≡ whole →
    before_branches (map P.plain_block new) (M.branches_of t opens s2 b2 (branches_of (map F.plain_block (drop (i + 1) xs)))) ≡ whole
branches_step t opens xs i x built new one s b s2 b2 whole lt is pushed made es eb so_far =
    let rest = branches_of (map F.plain_block (drop (i + 1) xs)) in
    let front = map P.plain_block built in
    let behind : b2 ≡ suc (b + M.blocks_in (F.plain_block x).list) = omega (arith, eb) in
    ap (λ n. before_branches (map P.plain_block n) (M.branches_of t opens s2 b2 rest)) pushed
    ∙ branches_last built one (M.branches_of t opens s2 b2 rest)
    ∙ ap (λ m. before_branches front (branch m.mark m.block (M.branches_of t opens s2 b2 rest))) made
    ∙ ap₂ (λ u v. before_branches front (branch (M.mark b (F.plain_block x).place) (M.block_of t opens s (suc b) (F.plain_block x).list) (M.branches_of t opens u v rest))) es behind
    ∙ sym (ap (λ l. before_branches front (M.branches_of t opens s b (branches_of (map F.plain_block l)))) (drop_next xs i x lt is))
    ∙ so_far

pub branches_done : (t : Table) (opens : List Open) (xs : List Block) (i : ℕ) (built : List CoreBlock) (s b : ℕ) (whole : BranchTrees) → length xs ≤ i →
    before_branches (map P.plain_block built) (M.branches_of t opens s b (branches_of (map F.plain_block (drop i xs)))) ≡ whole →
    P.branches_of (map P.plain_block built) ≡ whole
branches_done t opens xs i built s b whole le so_far =
    sym (branches_none (map P.plain_block built))
    ∙ sym (ap (λ l. before_branches (map P.plain_block built) (M.branches_of t opens s b (branches_of (map F.plain_block l)))) (drop_of_length-le xs le))
    ∙ so_far

pub stmts_among_step : (xs : List Block) (i : ℕ) (x : Block) (s s2 total : ℕ) → i < length xs → x ≡ get_or xs i x → s2 ≡ s + M.stmts_in (F.plain_block x).list →
    s + M.stmts_among (branches_of (map F.plain_block (drop i xs))) ≡ total → s2 + M.stmts_among (branches_of (map F.plain_block (drop (i + 1) xs))) ≡ total
stmts_among_step xs i x s s2 total lt is es h =
    let e : M.stmts_among (branches_of (map F.plain_block (drop i xs))) ≡ M.stmts_in (F.plain_block x).list + M.stmts_among (branches_of (map F.plain_block (drop (i + 1) xs)))
    = ap (λ l. M.stmts_among (branches_of (map F.plain_block l))) (drop_next xs i x lt is) in
    omega (arith, e, es, h)

pub blocks_among_step : (xs : List Block) (i : ℕ) (x : Block) (b b2 total : ℕ) → i < length xs → x ≡ get_or xs i x → b2 ≡ b + (1 + M.blocks_in (F.plain_block x).list) →
    b + M.blocks_among (branches_of (map F.plain_block (drop i xs))) ≡ total → b2 + M.blocks_among (branches_of (map F.plain_block (drop (i + 1) xs))) ≡ total
blocks_among_step xs i x b b2 total lt is eb h =
    let e : M.blocks_among (branches_of (map F.plain_block (drop i xs))) ≡ (1 + M.blocks_in (F.plain_block x).list) + M.blocks_among (branches_of (map F.plain_block (drop (i + 1) xs)))
    = ap (λ l. M.blocks_among (branches_of (map F.plain_block l))) (drop_next xs i x lt is) in
    omega (arith, e, eb, h)
