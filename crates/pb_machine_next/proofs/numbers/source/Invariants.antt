use Rattle.std.proofs.Common.{◌≡◌, drop}
use Rattle.pb_machine_next.specs.Numbers.{source_at}
use Rattle.pb_machine_next.proofs.numbers.source.Given as goal

abbrev pub invariant-loop-relay : goal.invariant-loop-relay
invariant-loop-relay l = source_at (drop l.relay-index l.relays) l.other l.me l.i ≡ source_at l.relays l.other l.me l.i
