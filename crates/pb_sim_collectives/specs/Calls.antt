-- Collective calls of the program and of the definition.
use Rattle.std.specs.Prelude.{ℕ, Bool, ◌&&◌, nat_eq, Option, Some, None}
use Rattle.pb_syntax.specs.declared.tree.Op.{Op}
use Rattle.pb_text.specs.declared.action.Joint.{Joint}
use Rattle.pb_text.specs.declared.action.Joint.TheVariants as J
use Rattle.pb_world.specs.Actions.{Operation, Max, Min, Sum, Collective, Barrier, Broadcast, Reduce, Allreduce}
use Rattle.pb_local.specs.Collectives.{operation_of}
use Rattle.pb_sim_collectives.specs.declared.call.Call.{Call}
use Rattle.pb_sim_collectives.specs.declared.call.Call.TheVariants as C

abbrev pub collective_of : Call → Collective
collective_of C.Barrier = Barrier
collective_of (C.Broadcast label root) = Broadcast label root
collective_of (C.Reduce label op root) = Reduce label (operation_of op) root
collective_of (C.Allreduce label op) = Allreduce label (operation_of op)

-- with a label; the operation and the root tell which it is
abbrev pub labelled : ℕ → Option ℕ → Option Op → Call
labelled label None None = C.Barrier
labelled label None (Some op) = C.Allreduce label op
labelled label (Some root) None = C.Broadcast label root
labelled label (Some root) (Some op) = C.Reduce label op root

abbrev pub call_of : Joint → Option ℕ → Option Op → Call
call_of J.Barrier root op = C.Barrier
call_of (J.Labelled label) root op = labelled label root op

-- what a collective is known by in a log
abbrev pub joint_of : Collective → Joint
joint_of Barrier = J.Barrier
joint_of (Broadcast label root) = J.Labelled label
joint_of (Reduce label operation root) = J.Labelled label
joint_of (Allreduce label operation) = J.Labelled label

-- ---- the same collective: kind, label, operation and root

abbrev pub kind_in : Collective → ℕ
kind_in Barrier = 0
kind_in (Broadcast label root) = 1
kind_in (Reduce label operation root) = 2
kind_in (Allreduce label operation) = 3

abbrev pub label_in : Collective → ℕ
label_in Barrier = 0
label_in (Broadcast label root) = label
label_in (Reduce label operation root) = label
label_in (Allreduce label operation) = label

abbrev pub operation_number : Operation → ℕ
operation_number Max = 0
operation_number Min = 1
operation_number Sum = 2

abbrev pub operation_in : Collective → ℕ
operation_in Barrier = 0
operation_in (Broadcast label root) = 0
operation_in (Reduce label operation root) = operation_number operation
operation_in (Allreduce label operation) = operation_number operation

abbrev pub root_in : Collective → ℕ
root_in Barrier = 0
root_in (Broadcast label root) = root
root_in (Reduce label operation root) = root
root_in (Allreduce label operation) = 0

abbrev pub is_same : Collective → Collective → Bool
is_same a b = nat_eq (kind_in a) (kind_in b) && nat_eq (label_in a) (label_in b) && nat_eq (operation_in a) (operation_in b) && nat_eq (root_in a) (root_in b)
