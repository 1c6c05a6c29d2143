-- The statements of a block and the branches of a choice, built from the last.
use Rattle.std.proofs.Common.{◌≡◌, ◌≤◌, ◌<◌, ◌-◌, ℕ, zero, suc, ℤ, List, [], ◌∷◌, map, drop, length, slice_index_or, refl, ap, ap₂, sym, subst, ◌∙◌, arith}
use Rattle.pb_core_language.specs.declared.tree.CoreBlock.{CoreBlock}
use Rattle.pb_core_language.specs.declared.tree.CoreStmt.{CoreStmt}
use Rattle.pb_core_language.specs.declared.protocol.CoreRole.{CoreRole}
use Rattle.pb_core_language.specs.Plain.{plain_block, plain_stmt, block_of, branches_of}
use Rattle.pb_core_language.specs.Flat as F
use Rattle.pb_core_language.specs.FlatOf.{flat_stmt, flat_block, flat_branches}
use Rattle.pb_plain.specs.declared.flat.Flat.{fold-roll-Flat}
use Rattle.pb_plain.specs.declared.flat.Flat.TheVariants.{Stop, rolls-Stop}
use Rattle.pb_plain.specs.declared.flat.Branches.TheOpen as L
use Rattle.pb_plain.specs.View.{view, branches_layer, flat_layer}

view_stop : view Stop ≡ F.stop
view_stop = ap view (sym rolls-Stop) ∙ fold-roll-Flat F.Branches F.Block branches_layer flat_layer L.Stop

drop_step : {A : Type 0} (xs : List A) (k : ℕ) (z : A) → k < length xs → drop k xs ≡ slice_index_or xs k z ∷ drop (suc k) xs
drop_step [] k z lt = absurd (omega arith)
drop_step (x ∷ xs) zero z lt = refl
drop_step (x ∷ xs) (suc k) z lt = drop_step xs k z (omega arith)

pub branch_step : (roles : List CoreRole) (n : ℤ) (ids : List ℕ) (i : ℤ) (bs : List CoreBlock) (left : ℕ) (b : CoreBlock) (first : F.Block) (old new : F.Branches) →
    0 < left → left ≤ length bs → b ≡ slice_index_or bs (left - 1) b →
    first ≡ flat_block roles n ids i (plain_block b).block (view Stop) →
    old ≡ flat_branches roles n ids i (branches_of (map plain_block (drop left bs))) →
    new ≡ F.branch (plain_block b).mark first old →
    new ≡ flat_branches roles n ids i (branches_of (map plain_block (drop (left - 1) bs)))
branch_step roles n ids i bs zero b first old new some le e f o w = absurd (omega arith)
branch_step roles n ids i bs (suc k) b first old new some le e f o w =
    let d : suc k - 1 ≡ k = omega arith in
    let is : b ≡ slice_index_or bs k b = subst (λ j. b ≡ slice_index_or bs j b) d e in
    subst (λ j. new ≡ flat_branches roles n ids i (branches_of (map plain_block (drop j bs)))) (sym d)
    (w
    ∙ ap₂ (λ x y. F.branch (plain_block b).mark x y) (f ∙ ap (λ r. flat_block roles n ids i (plain_block b).block r) view_stop) o
    ∙ ap (λ c. F.branch (plain_block c).mark (flat_block roles n ids i (plain_block c).block F.stop) (flat_branches roles n ids i (branches_of (map plain_block (drop (suc k) bs))))) is
    ∙ ap (λ xs. flat_branches roles n ids i (branches_of (map plain_block xs))) (sym (drop_step bs k b (omega arith))))

pub block_step : (roles : List CoreRole) (n : ℤ) (ids : List ℕ) (i : ℤ) (ss : List CoreStmt) (left : ℕ) (s : CoreStmt) (rest old new : F.Block) →
    0 < left → left ≤ length ss → s ≡ slice_index_or ss (left - 1) s →
    old ≡ flat_block roles n ids i (block_of (map plain_stmt (drop left ss))) rest →
    new ≡ flat_stmt roles n ids i (plain_stmt s).mark (plain_stmt s).stmt old →
    new ≡ flat_block roles n ids i (block_of (map plain_stmt (drop (left - 1) ss))) rest
block_step roles n ids i ss zero s rest old new some le e o w = absurd (omega arith)
block_step roles n ids i ss (suc k) s rest old new some le e o w =
    let d : suc k - 1 ≡ k = omega arith in
    let is : s ≡ slice_index_or ss k s = subst (λ j. s ≡ slice_index_or ss j s) d e in
    let later = flat_block roles n ids i (block_of (map plain_stmt (drop (suc k) ss))) rest in
    subst (λ j. new ≡ flat_block roles n ids i (block_of (map plain_stmt (drop j ss))) rest) (sym d)
    (w
    ∙ ap (λ x. flat_stmt roles n ids i (plain_stmt s).mark (plain_stmt s).stmt x) o
    ∙ ap (λ c. flat_stmt roles n ids i (plain_stmt c).mark (plain_stmt c).stmt later) is
    ∙ ap (λ xs. flat_block roles n ids i (block_of (map plain_stmt xs)) rest) (sym (drop_step ss k s (omega arith))))

-- ---- nothing is built

drop_all : {A : Type 0} (xs : List A) (k : ℕ) → k ≡ length xs → drop k xs ≡ []
drop_all [] zero e = refl
drop_all [] (suc k) e = refl
drop_all (x ∷ xs) zero e = absurd (omega arith)
drop_all (x ∷ xs) (suc k) e = drop_all xs k (omega arith)

pub block_start : (roles : List CoreRole) (n : ℤ) (ids : List ℕ) (i : ℤ) (ss : List CoreStmt) (k : ℕ) (rest : F.Block) → k ≡ length ss →
    rest ≡ flat_block roles n ids i (block_of (map plain_stmt (drop k ss))) rest
block_start roles n ids i ss k rest e = ap (λ xs. flat_block roles n ids i (block_of (map plain_stmt xs)) rest) (sym (drop_all ss k e))

pub branch_start : (roles : List CoreRole) (n : ℤ) (ids : List ℕ) (i : ℤ) (bs : List CoreBlock) (k : ℕ) (built : F.Branches) → k ≡ length bs → built ≡ F.no_branch →
    built ≡ flat_branches roles n ids i (branches_of (map plain_block (drop k bs)))
branch_start roles n ids i bs k built e none = none ∙ ap (λ xs. flat_branches roles n ids i (branches_of (map plain_block xs))) (sym (drop_all bs k e))
