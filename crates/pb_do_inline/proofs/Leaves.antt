-- The plain tree of a statement without braces.
use Rattle.std.proofs.Common.{◌≡◌, refl}
use Rattle.pb_text.specs.declared.place.Place.{Place}
use Rattle.pb_text.specs.declared.place.Spot.{Spot}
use Rattle.pb_syntax.specs.declared.tree.Payload.{Payload}
use Rattle.pb_syntax.specs.declared.tree.Op.{Op}
use Rattle.pb_syntax.specs.declared.tree.End.{End}
use Rattle.pb_syntax.specs.Tree as tree
use Rattle.pb_do_syntax.specs.declared.tree.CallStatement.{CallStatement}
use Rattle.pb_do_syntax.specs.declared.tree.CallStatement.TheVariants as V
use Rattle.pb_do_syntax.specs.declared.tree.CallStatement.TheVariants.{outs-Message, outs-Continue, outs-Compute, outs-Barrier, outs-Broadcast, outs-Reduce, outs-Allreduce}
use Rattle.pb_do_syntax.specs.declared.tree.CallStatement.TheFolds.{fold_out-CallStatement}
use Rattle.pb_do_syntax.specs.Calls as C
use Rattle.pb_do_syntax.specs.Plain.{plain_statement}

pub at_message : (x : CallStatement) (label : Spot) (payload : Payload) (from : End) (to : End) → x ≡ V.Message label payload from to → plain_statement x ≡ C.plain (tree.message label payload from to)
at_message x label payload from to e = simp (e, fold_out-CallStatement, outs-Message) refl

pub at_again : (x : CallStatement) (place : Place) (name : Spot) → x ≡ V.Continue place name → plain_statement x ≡ C.plain (tree.again place name)
at_again x place name e = simp (e, fold_out-CallStatement, outs-Continue) refl

pub at_compute : (x : CallStatement) (place : Place) (kernel : Spot) (at : End) → x ≡ V.Compute place kernel at → plain_statement x ≡ C.plain (tree.compute place kernel at)
at_compute x place kernel at e = simp (e, fold_out-CallStatement, outs-Compute) refl

pub at_barrier : (x : CallStatement) (place : Place) → x ≡ V.Barrier place → plain_statement x ≡ C.plain (tree.barrier place)
at_barrier x place e = simp (e, fold_out-CallStatement, outs-Barrier) refl

pub at_broadcast : (x : CallStatement) (place : Place) (label : Spot) (payload : Payload) (from : End) → x ≡ V.Broadcast place label payload from → plain_statement x ≡ C.plain (tree.broadcast place label payload from)
at_broadcast x place label payload from e = simp (e, fold_out-CallStatement, outs-Broadcast) refl

pub at_reduce : (x : CallStatement) (place : Place) (label : Spot) (payload : Payload) (op : Op) (to : End) → x ≡ V.Reduce place label payload op to → plain_statement x ≡ C.plain (tree.reduce place label payload op to)
at_reduce x place label payload op to e = simp (e, fold_out-CallStatement, outs-Reduce) refl

pub at_allreduce : (x : CallStatement) (place : Place) (label : Spot) (payload : Payload) (op : Op) → x ≡ V.Allreduce place label payload op → plain_statement x ≡ C.plain (tree.allreduce place label payload op)
at_allreduce x place label payload op e = simp (e, fold_out-CallStatement, outs-Allreduce) refl
