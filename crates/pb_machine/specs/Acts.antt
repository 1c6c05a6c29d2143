-- Public words for what a rank does, and the definition's.
use Rattle.std.specs.Prelude.{Some, None}
use Rattle.pb_syntax.specs.declared.tree.Op.{Op}
use Rattle.pb_syntax.specs.declared.tree.Op.TheVariants as O
use Rattle.pb_text.specs.declared.action.Joint.TheVariants as J
use Rattle.pb_world.specs.Actions.{Operation, Max, Min, Sum, Collective, Barrier, Broadcast, Reduce, Allreduce, Kind, Chooses, Runs, Sends, Receives, Enters, Leaves}
use Rattle.pb_machine.specs.declared.act.Act.{Act}
use Rattle.pb_machine.specs.declared.act.Act.TheVariants as A

abbrev pub op_of : Operation → Op
op_of Max = O.Max
op_of Min = O.Min
op_of Sum = O.Sum

-- an entry carries all that the ranks have to agree on
abbrev pub entry_of : Collective → Act
entry_of Barrier = A.Enter J.Barrier None None
entry_of (Broadcast label root) = A.Enter (J.Labelled label) (Some root) None
entry_of (Reduce label operation root) = A.Enter (J.Labelled label) (Some root) (Some (op_of operation))
entry_of (Allreduce label operation) = A.Enter (J.Labelled label) None (Some (op_of operation))

abbrev pub act_of : Kind → Act
act_of (Chooses kernel branches) = A.Choose kernel branches
act_of (Runs kernel) = A.Run kernel
act_of (Sends to label) = A.Send to label
act_of (Receives from label) = A.Recv from label
act_of (Enters collective) = entry_of collective
act_of (Leaves collective) = A.Leave
