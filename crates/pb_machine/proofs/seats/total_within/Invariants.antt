use Rattle.std.proofs.Common.{◌≡◌, ◌≤◌, ◌+◌, drop, length}
use Rattle.pb_local.specs.Ranks.{seats_from, total}
use Rattle.pb_machine.proofs.seats.total_within.Given as goal

abbrev pub invariant-loop-role : goal.invariant-loop-role
invariant-loop-role l = record {
  whole : l.sum + length (seats_from l.role-index (drop l.role-index l.roles) l.n) ≡ total l.roles l.n;
  few : l.sum ≤ l.most;
}
