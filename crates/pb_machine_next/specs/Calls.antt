-- A collective call, as the definition has it.
use Rattle.pb_world.specs.Actions.{Collective, Barrier, Broadcast, Reduce, Allreduce}
use Rattle.pb_local.specs.Collectives.{operation_of}
use Rattle.pb_machine_next.specs.declared.call.Call.{Call}
use Rattle.pb_machine_next.specs.declared.call.Call.TheVariants as C

abbrev pub collective_of : Call → Collective
collective_of C.Barrier = Barrier
collective_of (C.Broadcast label root) = Broadcast label root
collective_of (C.Reduce label op root) = Reduce label (operation_of op) root
collective_of (C.Allreduce label op) = Allreduce label (operation_of op)
