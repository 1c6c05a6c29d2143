use Rattle.std.proofs.Common.{◌≡◌, ◌++◌, drop}
use Rattle.pb_local.specs.Layout.{relay_lines}
use Rattle.pb_local.specs.Tree.{program_of}
use Rattle.pb_local.proofs.lines.push_relays.Given as goal

abbrev pub invariant-loop-relay : goal.invariant-loop-relay
invariant-loop-relay l = l.out.items ++ relay_lines (program_of l.local) l.depth (drop l.relay-index l.relays) ≡ l.initial.out.items ++ relay_lines (program_of l.local) l.depth l.relays
