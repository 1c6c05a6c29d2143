-- The plain trees of statements that are made.
use Rattle.std.proofs.Common.{◌≡◌, ℕ, ℤ, ap, sym, ◌∙◌}
use Rattle.pb_syntax.specs.declared.tree.Op.{Op}
use Rattle.pb_local.specs.declared.stmt.Peer.{Peer}
use Rattle.pb_local.specs.declared.stmt.Stmt.{fold-roll-Stmt}
use Rattle.pb_local.specs.declared.stmt.Stmt.TheVariants.{Barrier, Own, Again, Send, Recv, Run, Broadcast, Reduce, Allreduce, rolls-Barrier, rolls-Own, rolls-Again, rolls-Send, rolls-Recv, rolls-Run, rolls-Broadcast, rolls-Reduce, rolls-Allreduce}
use Rattle.pb_local.specs.declared.stmt.Stmt.TheOpen as Layer
use Rattle.pb_local.specs.Tree.{Code, barrier, own, again, send, recv, run, broadcast, reduce, allreduce, layer, plain}

pub own_plain : (off : ℤ) → plain (Own off) ≡ own off
own_plain off = ap plain (sym (rolls-Own off)) ∙ fold-roll-Stmt Code layer (Layer.Own off)

pub again_plain : (id : ℕ) → plain (Again id) ≡ again id
again_plain id = ap plain (sym (rolls-Again id)) ∙ fold-roll-Stmt Code layer (Layer.Again id)

pub send_plain : (label : ℕ) (to : Peer) → plain (Send label to) ≡ send label to
send_plain label to = ap plain (sym (rolls-Send label to)) ∙ fold-roll-Stmt Code layer (Layer.Send label to)

pub recv_plain : (label : ℕ) (from : Peer) → plain (Recv label from) ≡ recv label from
recv_plain label from = ap plain (sym (rolls-Recv label from)) ∙ fold-roll-Stmt Code layer (Layer.Recv label from)

pub run_plain : (kernel : ℕ) → plain (Run kernel) ≡ run kernel
run_plain kernel = ap plain (sym (rolls-Run kernel)) ∙ fold-roll-Stmt Code layer (Layer.Run kernel)

pub broadcast_plain : (label : ℕ) (root : Peer) → plain (Broadcast label root) ≡ broadcast label root
broadcast_plain label root = ap plain (sym (rolls-Broadcast label root)) ∙ fold-roll-Stmt Code layer (Layer.Broadcast label root)

pub reduce_plain : (label : ℕ) (op : Op) (root : Peer) → plain (Reduce label op root) ≡ reduce label op root
reduce_plain label op root = ap plain (sym (rolls-Reduce label op root)) ∙ fold-roll-Stmt Code layer (Layer.Reduce label op root)

pub allreduce_plain : (label : ℕ) (op : Op) → plain (Allreduce label op) ≡ allreduce label op
allreduce_plain label op = ap plain (sym (rolls-Allreduce label op)) ∙ fold-roll-Stmt Code layer (Layer.Allreduce label op)

pub barrier_plain : plain Barrier ≡ barrier
barrier_plain = ap plain (sym rolls-Barrier) ∙ fold-roll-Stmt Code layer Layer.Barrier
