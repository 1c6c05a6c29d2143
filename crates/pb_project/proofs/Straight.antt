-- A statement that is no loop, no continue and no choice.
use Rattle.std.proofs.Common.{◌≡◌, ◌+◌, ◌⊎◌, ℕ, true, Some, None, List, sym, ap, ◌∙◌, subst, inl, inr}
use Rattle.pb_affine.specs.declared.lin.Lin.{Lin}
use Rattle.pb_syntax.specs.declared.tree.Op.{Op}
use Rattle.pb_core_language.specs.declared.tree.CoreBlock.{CoreBlock}
use Rattle.pb_core_language.specs.declared.tree.CoreEnd.{CoreEnd}
use Rattle.pb_core_language.specs.declared.tree.CoreStmt.{CoreStmt}
use Rattle.pb_core_language.specs.declared.tree.CoreKind.TheVariants.{Message, Foreach, Again, Run, Barrier, Broadcast, Reduce, Allreduce}
use Rattle.pb_core_language.specs.Plain.{plain_stmt}
use Rattle.pb_core_language.proofs.Plains.{plain_message, plain_foreach, plain_again, plain_run, plain_barrier, plain_broadcast, plain_reduce, plain_allreduce}
use Rattle.pb_project.specs.Takers.{back_to}
use Rattle.pb_core_language.specs.Sound.{rows_of}
use Rattle.pb_core_language.specs.Tree.{Mark, StmtTree, again}
use Rattle.pb_local.specs.declared.stmt.Stmt.{Stmt}
use Rattle.pb_local.specs.Tree.{Code}
use Rattle.pb_project_piece.specs.Adding.{Added}
use Rattle.pb_project_piece.specs.Pieces.{IsPieceOf, is_straight}
use Rattle.pb_shape.specs.Shape as S
use Rattle.pb_shape.specs.Places.{scope_of}
use Rattle.pb_project.specs.Blocks.{behind, IsStmtOf}
use Rattle.pb_project.specs.Places.{Known}
use Rattle.pb_project.proofs.Guarding.{roles_are}
use Rattle.pb_project.proofs.Reaching.{ends_come}

no_loop : (id : ℕ) → Some id ≡ None → ⊥
no_loop id e = cc

continues : (s : StmtTree) (id : ℕ) → s ≡ again id → back_to s ≡ None → is_straight s ≡ true
continues s id e h = absurd (no_loop id (sym (ap back_to e) ∙ h))

pub straight_by : (s : CoreStmt) →
    ((l : ℕ) × (f : CoreEnd) × (t : CoreEnd) × s.what ≡ Message l f t) ⊎ (((low : Lin) × (high : Lin) × (items : CoreBlock) × s.what ≡ Foreach low high items) ⊎ (((id : ℕ) × s.what ≡ Again id) ⊎
    (((k : ℕ) × (at : CoreEnd) × s.what ≡ Run k at) ⊎ ((s.what ≡ Barrier) ⊎ (((l : ℕ) × (root : CoreEnd) × s.what ≡ Broadcast l root) ⊎
    (((l : ℕ) × (op : Op) × (root : CoreEnd) × s.what ≡ Reduce l op root) ⊎ ((l : ℕ) × (op : Op) × s.what ≡ Allreduce l op))))))) →
    back_to (plain_stmt s).stmt ≡ None → is_straight (plain_stmt s).stmt ≡ true
straight_by s (inl e) h = ap is_straight (plain_message s e.0 e.1 e.2 e.3)
straight_by s (inr (inl e)) h = ap is_straight (plain_foreach s e.0 e.1 e.2 e.3)
straight_by s (inr (inr (inl e))) h = continues (plain_stmt s).stmt e.0 (plain_again s e.0 e.1) h
straight_by s (inr (inr (inr (inl e)))) h = ap is_straight (plain_run s e.0 e.1 e.2)
straight_by s (inr (inr (inr (inr (inl e))))) h = ap is_straight (plain_barrier s e)
straight_by s (inr (inr (inr (inr (inr (inl e)))))) h = ap is_straight (plain_broadcast s e.0 e.1 e.2)
straight_by s (inr (inr (inr (inr (inr (inr (inl e))))))) h = ap is_straight (plain_reduce s e.0 e.1 e.2 e.3)
straight_by s (inr (inr (inr (inr (inr (inr (inr e))))))) h = ap is_straight (plain_allreduce s e.0 e.1 e.2)

pub kind_of : (k : Known) (before after : ℕ) (m : Mark) (s t : StmtTree) (old new : List Stmt) → s ≡ t → Added old new (IsStmtOf k before after m t) → Added old new (IsStmtOf k before after m s)
kind_of k before after m s t old new e h = subst (λ z. Added old new (IsStmtOf k before after m z)) (sym e) h

same_loops : (n a b : ℕ) → a ≡ b → n + a ≡ n + b
same_loops n a b e = cc

pub straight_is : (k : Known) (before : ℕ) (m : Mark) (s : StmtTree) (piece : List Code) → is_straight s ≡ true → IsPieceOf k.range k.roles k.whole s piece → IsStmtOf k before before m s piece
straight_is k before m s piece straight h = record {
  shape = λ p l cuts a here place fair reached rest tail others.
      S.piece reached.some
      (h.is (scope_of p) here (rows_of p) a.opens place.stands reached.free (ends_come (scope_of p) a here (rows_of p) a.opens m s fair.fair.sound reached) fair.fair.sound straight tail) others;
  made = λ p l cuts a place fair tail others. h.made p l (behind before k.numbers) a.opens place.tabled (roles_are k p l cuts a place) fair.fair.sound straight fair.goes tail others;
  loops = λ tail. same_loops _ _ _ (h.loops tail);
  size = h.size;
  braces = h.braces;
}
