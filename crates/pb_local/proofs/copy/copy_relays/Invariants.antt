use Rattle.std.proofs.Common.{◌≡◌, ◌++◌, drop}
use Rattle.pb_local.proofs.copy.copy_relays.Given as goal

abbrev pub invariant-loop-relay : goal.invariant-loop-relay
invariant-loop-relay l = l.list.items ++ drop l.relay-index l.relays ≡ l.relays
