-- The best of sites one behind the other.
use Rattle.std.proofs.Common.{◌≡◌, ℕ, ◌+◌, ◌<◌, true, false, Option, List, [], ◌∷◌, ◌++◌, length, get_or, map, drop, refl, sym, ap, ◌∙◌}
use Rattle.std.proofs.lemmas.List.{at_drop_more}
use Rattle.std.proofs.lemmas.Bool.{cond-true, cond-false}
use Rattle.pb_affine.specs.declared.range.NRange.{NRange}
use Rattle.pb_core_language.specs.declared.protocol.CoreRole.{CoreRole}
use Rattle.pb_core_language.specs.declared.tree.CoreBlock.{CoreBlock}
use Rattle.pb_core_language.specs.declared.tree.CoreStmt.{CoreStmt}
use Rattle.pb_core_language.specs.Plain.{plain_block, plain_stmt, block_of, branches_of}
use Rattle.pb_core_language.specs.Tree.{Mark, StmtTree, BlockTree, more, BranchTrees, branch, is_again}
use Rattle.pb_core_language.specs.declared.tree.Bounds.{Bounds}
use Rattle.pb_rules.specs.declared.found.Found.{Found}
use Rattle.pb_rules.specs.Sites.{Site, stmt_sites, block_sites, branches_sites, kept_site, kept_sites}

kept_append : (range : NRange) (roles : List CoreRole) (a b : List Site) (best : Option Found) → kept_sites range roles (a ++ b) best ≡ kept_sites range roles b (kept_sites range roles a best)
kept_append range roles [] b best = refl
kept_append range roles (s ∷ a) b best = kept_append range roles a b (kept_site range roles s best)

pub kept_on : (range : NRange) (roles : List CoreRole) (over : Option Bounds) (m : Mark) (s : StmtTree) (rest : BlockTree) (best : Option Found) → false ≡ is_again s
    → kept_sites range roles (block_sites over (more m s rest)) best ≡ kept_sites range roles (block_sites over rest) (kept_sites range roles (stmt_sites over m s) best)
kept_on range roles over m s rest best e =
    ap (λ l. kept_sites range roles l best) (cond-false (is_again s) [] (stmt_sites over m s ++ block_sites over rest) (sym e)) ∙ kept_append range roles (stmt_sites over m s) (block_sites over rest) best

pub kept_stop : (range : NRange) (roles : List CoreRole) (over : Option Bounds) (m : Mark) (s : StmtTree) (rest : BlockTree) (best : Option Found) → true ≡ is_again s
    → kept_sites range roles (block_sites over (more m s rest)) best ≡ best
kept_stop range roles over m s rest best e = ap (λ l. kept_sites range roles l best) (cond-true (is_again s) [] (stmt_sites over m s ++ block_sites over rest) (sym e))

pub kept_both : (range : NRange) (roles : List CoreRole) (over : Option Bounds) (m : Mark) (b : BlockTree) (rest : BranchTrees) (best : Option Found)
    → kept_sites range roles (branches_sites over (branch m b rest)) best ≡ kept_sites range roles (branches_sites over rest) (kept_sites range roles (block_sites over b) best)
kept_both range roles over m b rest best = kept_append range roles (block_sites over b) (branches_sites over rest) best

-- a step of the loop over a block's statements, and of that over branches
pub statement_step : (range : NRange) (roles : List CoreRole) (over : Option Bounds) (items : List CoreStmt) (i : ℕ) (x : CoreStmt) (best next all : Option Found)
    → i < length items → x ≡ get_or items i x → false ≡ is_again (plain_stmt x).stmt → next ≡ kept_sites range roles (stmt_sites over (plain_stmt x).mark (plain_stmt x).stmt) best
    → kept_sites range roles (block_sites over (block_of (map plain_stmt (drop i items)))) best ≡ all
    → kept_sites range roles (block_sites over (block_of (map plain_stmt (drop (i + 1) items)))) next ≡ all
statement_step range roles over items i x best next all lt is e step so_far =
    ap (λ b. kept_sites range roles (block_sites over (block_of (map plain_stmt (drop (i + 1) items)))) b) step
    ∙ sym (kept_on range roles over (plain_stmt x).mark (plain_stmt x).stmt (block_of (map plain_stmt (drop (i + 1) items))) best e)
    ∙ ap (λ y. kept_sites range roles (block_sites over (block_of (map plain_stmt (y ∷ drop (i + 1) items)))) best) is
    ∙ sym (at_drop_more (λ l. kept_sites range roles (block_sites over (block_of (map plain_stmt l))) best) items i x lt)
    ∙ so_far

pub branch_step : (range : NRange) (roles : List CoreRole) (over : Option Bounds) (items : List CoreBlock) (i : ℕ) (x : CoreBlock) (best next all : Option Found)
    → i < length items → x ≡ get_or items i x → next ≡ kept_sites range roles (block_sites over (plain_block x).block) best
    → kept_sites range roles (branches_sites over (branches_of (map plain_block (drop i items)))) best ≡ all
    → kept_sites range roles (branches_sites over (branches_of (map plain_block (drop (i + 1) items)))) next ≡ all
branch_step range roles over items i x best next all lt is step so_far =
    ap (λ b. kept_sites range roles (branches_sites over (branches_of (map plain_block (drop (i + 1) items)))) b) step
    ∙ sym (kept_both range roles over (plain_block x).mark (plain_block x).block (branches_of (map plain_block (drop (i + 1) items))) best)
    ∙ ap (λ y. kept_sites range roles (branches_sites over (branches_of (map plain_block (y ∷ drop (i + 1) items)))) best) is
    ∙ sym (at_drop_more (λ l. kept_sites range roles (branches_sites over (branches_of (map plain_block l))) best) items i x lt)
    ∙ so_far
