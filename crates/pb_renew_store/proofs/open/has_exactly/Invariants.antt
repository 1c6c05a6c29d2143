use Rattle.std.proofs.Common.{◌≤◌, ◌-◌, length, drop}
use Rattle.pb_renew_store.proofs.Bytes.{Compares}
use Rattle.pb_renew_store.proofs.open.has_exactly.Given as goal

abbrev pub invariant-loop-count : goal.invariant-loop-count
invariant-loop-count g l = record {
  within : l.done ≤ length l.bytes;
  compares : Compares (g.F.Read.remaining l.initial.file) (g.F.Read.remaining l.file) l.bytes (drop l.done l.bytes);
}

abbrev pub decreases-loop-count : goal.decreases-loop-count
decreases-loop-count g l = length l.bytes - l.done
