use Rattle.std.proofs.Common.{◌≡◌, ◌++◌, drop}
use Rattle.pb_local.specs.Tree.{program_of}
use Rattle.pb_cprint.specs.Written.{relays_written}
use Rattle.pb_cprint.proofs.choices.push_relays.Given as goal

abbrev pub invariant-loop-relay : goal.invariant-loop-relay
invariant-loop-relay l = l.out.items ++ relays_written (program_of l.local) l.depth (drop l.relay-index l.relays) l.from ≡ l.initial.out.items ++ relays_written (program_of l.local) l.depth l.relays l.from
