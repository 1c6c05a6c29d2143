-- The plain trees of statements and blocks.
use Rattle.std.proofs.Common.{◌≡◌, ℕ, map, ap, sym, ◌∙◌, Vec}
use Rattle.std.specs.declared.alloc.Global.{Global}
use Rattle.pb_affine.specs.declared.lin.Lin.{Lin}
use Rattle.pb_syntax.specs.declared.tree.Op.{Op}
use Rattle.pb_core_language.specs.declared.tree.CoreEnd.{CoreEnd}
use Rattle.pb_core_language.specs.declared.tree.CoreBlock.{CoreBlock, fold_out-CoreBlock, out-CoreBlock}
use Rattle.pb_core_language.specs.declared.tree.CoreStmt.{CoreStmt, fold_out-CoreStmt}
use Rattle.pb_core_language.specs.declared.tree.CoreKind.{fold-roll-CoreKind}
use Rattle.pb_core_language.specs.declared.tree.CoreKind.TheVariants.{Message, Foreach, Loop, Again, Choice, Run, Barrier, Broadcast, Reduce, Allreduce, rolls-Message, rolls-Foreach, rolls-Loop, rolls-Again, rolls-Choice, rolls-Run, rolls-Barrier, rolls-Broadcast, rolls-Reduce, rolls-Allreduce}
use Rattle.pb_core_language.specs.declared.tree.CoreKind.TheOpen as Layer
use Rattle.pb_core_language.specs.Plain.{MarkedBlock, MarkedStmt, plain_block, plain_stmt, plain_kind, block_of, branches_of, kind_layer, block_layer, stmt_layer}
use Rattle.pb_core_language.specs.Tree.{StmtTree, message, foreach, loop, again, choice, run, barrier, broadcast, reduce, allreduce}

what_is : (s : CoreStmt) → (plain_stmt s).stmt ≡ plain_kind s.what
what_is s = ap (λ a. a.stmt) (fold_out-CoreStmt StmtTree MarkedBlock MarkedStmt kind_layer block_layer stmt_layer s)

pub plain_message : (s : CoreStmt) (l : ℕ) (f t : CoreEnd) → s.what ≡ Message l f t → (plain_stmt s).stmt ≡ message l f t
plain_message s l f t e = what_is s ∙ ap plain_kind (e ∙ sym (rolls-Message l f t)) ∙ fold-roll-CoreKind StmtTree MarkedBlock MarkedStmt kind_layer block_layer stmt_layer (Layer.Message l f t)

pub plain_foreach : (s : CoreStmt) (low high : Lin) (items : CoreBlock) → s.what ≡ Foreach low high items → (plain_stmt s).stmt ≡ foreach (record { low = low; high = high }) (plain_block items).mark (plain_block items).block
plain_foreach s low high items e = what_is s ∙ ap plain_kind (e ∙ sym (rolls-Foreach low high items)) ∙ fold-roll-CoreKind StmtTree MarkedBlock MarkedStmt kind_layer block_layer stmt_layer (Layer.Foreach low high items)

pub plain_loop : (s : CoreStmt) (id : ℕ) (body : CoreBlock) → s.what ≡ Loop id body → (plain_stmt s).stmt ≡ loop id (plain_block body).mark (plain_block body).block
plain_loop s id body e = what_is s ∙ ap plain_kind (e ∙ sym (rolls-Loop id body)) ∙ fold-roll-CoreKind StmtTree MarkedBlock MarkedStmt kind_layer block_layer stmt_layer (Layer.Loop id body)

pub plain_again : (s : CoreStmt) (id : ℕ) → s.what ≡ Again id → (plain_stmt s).stmt ≡ again id
plain_again s id e = what_is s ∙ ap plain_kind (e ∙ sym (rolls-Again id)) ∙ fold-roll-CoreKind StmtTree MarkedBlock MarkedStmt kind_layer block_layer stmt_layer (Layer.Again id)

pub plain_choice : (s : CoreStmt) (k : ℕ) (at : CoreEnd) (bs : Vec CoreBlock Global) → s.what ≡ Choice k at bs → (plain_stmt s).stmt ≡ choice k at (branches_of (map plain_block bs.items))
plain_choice s k at bs e = what_is s ∙ ap plain_kind (e ∙ sym (rolls-Choice k at bs)) ∙ fold-roll-CoreKind StmtTree MarkedBlock MarkedStmt kind_layer block_layer stmt_layer (Layer.Choice k at bs)

pub plain_run : (s : CoreStmt) (k : ℕ) (at : CoreEnd) → s.what ≡ Run k at → (plain_stmt s).stmt ≡ run k at
plain_run s k at e = what_is s ∙ ap plain_kind (e ∙ sym (rolls-Run k at)) ∙ fold-roll-CoreKind StmtTree MarkedBlock MarkedStmt kind_layer block_layer stmt_layer (Layer.Run k at)

pub plain_barrier : (s : CoreStmt) → s.what ≡ Barrier → (plain_stmt s).stmt ≡ barrier
plain_barrier s e = what_is s ∙ ap plain_kind (e ∙ sym rolls-Barrier) ∙ fold-roll-CoreKind StmtTree MarkedBlock MarkedStmt kind_layer block_layer stmt_layer Layer.Barrier

pub plain_broadcast : (s : CoreStmt) (l : ℕ) (root : CoreEnd) → s.what ≡ Broadcast l root → (plain_stmt s).stmt ≡ broadcast l root
plain_broadcast s l root e = what_is s ∙ ap plain_kind (e ∙ sym (rolls-Broadcast l root)) ∙ fold-roll-CoreKind StmtTree MarkedBlock MarkedStmt kind_layer block_layer stmt_layer (Layer.Broadcast l root)

pub plain_reduce : (s : CoreStmt) (l : ℕ) (op : Op) (root : CoreEnd) → s.what ≡ Reduce l op root → (plain_stmt s).stmt ≡ reduce l op root
plain_reduce s l op root e = what_is s ∙ ap plain_kind (e ∙ sym (rolls-Reduce l op root)) ∙ fold-roll-CoreKind StmtTree MarkedBlock MarkedStmt kind_layer block_layer stmt_layer (Layer.Reduce l op root)

pub plain_allreduce : (s : CoreStmt) (l : ℕ) (op : Op) → s.what ≡ Allreduce l op → (plain_stmt s).stmt ≡ allreduce l op
plain_allreduce s l op e = what_is s ∙ ap plain_kind (e ∙ sym (rolls-Allreduce l op)) ∙ fold-roll-CoreKind StmtTree MarkedBlock MarkedStmt kind_layer block_layer stmt_layer (Layer.Allreduce l op)

pub plain_mark : (s : CoreStmt) → (plain_stmt s).mark ≡ record { number = s.number; place = s.place }
plain_mark s = ap (λ a. a.mark) (fold_out-CoreStmt StmtTree MarkedBlock MarkedStmt kind_layer block_layer stmt_layer s)

-- ---- blocks

pub plain_list : (b : CoreBlock) → (plain_block b).block ≡ block_of (map plain_stmt (out-CoreBlock b).list.items)
plain_list b = ap (λ a. a.block) (fold_out-CoreBlock StmtTree MarkedBlock MarkedStmt kind_layer block_layer stmt_layer b)

pub block_mark : (b : CoreBlock) → (plain_block b).mark ≡ record { number = (out-CoreBlock b).number; place = (out-CoreBlock b).place }
block_mark b = ap (λ a. a.mark) (fold_out-CoreBlock StmtTree MarkedBlock MarkedStmt kind_layer block_layer stmt_layer b)
