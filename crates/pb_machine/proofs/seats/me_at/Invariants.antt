use Rattle.std.proofs.Common.{◌≡◌, drop}
use Rattle.pb_local.specs.Ranks.{seats_from, seats, seat_at}
use Rattle.pb_machine.proofs.seats.me_at.Given as goal

abbrev pub invariant-loop-role : goal.invariant-loop-role
invariant-loop-role l = record {
  number : l.number ≡ l.role-index;
  seat : seat_at l.left (seats_from l.role-index (drop l.role-index l.roles) l.n) ≡ seat_at l.rank (seats l.roles l.n);
}
