-- The flat protocol of a choice whose branches are all built.
use Rattle.std.proofs.Common.{◌≡◌, ◌≤◌, ℕ, zero, suc, ℤ, List, map, drop, ap, sym, ◌∙◌, Vec, Result, Ok, Err, IfOk, arith}
use Rattle.std.specs.declared.alloc.Global.{Global}
use Rattle.pb_core_language.specs.declared.tree.CoreEnd.{CoreEnd}
use Rattle.pb_core_language.specs.declared.tree.CoreBlock.{CoreBlock}
use Rattle.pb_core_language.specs.declared.tree.CoreStmt.{CoreStmt}
use Rattle.pb_core_language.specs.declared.tree.CoreKind.TheVariants.{Choice}
use Rattle.pb_core_language.specs.declared.protocol.CoreRole.{CoreRole}
use Rattle.pb_core_language.specs.Tree.{Mark}
use Rattle.pb_core_language.specs.Flat as F
use Rattle.pb_core_language.specs.FlatOf.{flat_stmt, flat_branches, from_one, rank_of}
use Rattle.pb_text.specs.declared.memory.NoMemory.{NoMemory}
use Rattle.pb_plain.specs.declared.flat.Flat.{Flat}
use Rattle.pb_plain.specs.View.{view}
use Rattle.pb_core_language.specs.Plain.{plain_block, plain_stmt, branches_of}
use Rattle.pb_core_language.proofs.Plains.{plain_choice}

pub choice_done : (roles : List CoreRole) (n : ℤ) (ids : List ℕ) (i : ℤ) (m : Mark) (s : CoreStmt) (k : ℕ) (at : CoreEnd) (bs : Vec CoreBlock Global) (left : ℕ)
    (origin : F.Origin) (chooser : ℕ) (built : F.Branches) (kept rest : F.Block) (r : Result Flat NoMemory) → kept ≡ rest → s.what ≡ Choice k at bs → left ≤ 0 →
    origin ≡ from_one m at n i → chooser ≡ rank_of roles n at i →
    built ≡ flat_branches roles n ids i (branches_of (map plain_block (drop left bs.items))) →
    IfOk r (λ v. view v ≡ F.choice origin chooser k built kept) →
    IfOk r (λ v. view v ≡ flat_stmt roles n ids i m (plain_stmt s).stmt rest)
choice_done roles n ids i m s k at bs left origin chooser built kept rest (Err e) same is le from rank b h = tt
choice_done roles n ids i m s k at bs (suc left) origin chooser built kept rest (Ok v) same is le from rank b h = absurd (omega arith)
choice_done roles n ids i m s k at bs zero origin chooser built kept rest (Ok v) same is le from rank b h =
    h ∙ ap (λ x. F.choice x chooser k built kept) from
    ∙ ap (λ x. F.choice (from_one m at n i) x k built kept) rank
    ∙ ap (λ x. F.choice (from_one m at n i) (rank_of roles n at i) k x kept) b
    ∙ ap (λ x. F.choice (from_one m at n i) (rank_of roles n at i) k (flat_branches roles n ids i (branches_of (map plain_block bs.items))) x) same
    ∙ ap (λ x. flat_stmt roles n ids i m x rest) (sym (plain_choice s k at bs is))
