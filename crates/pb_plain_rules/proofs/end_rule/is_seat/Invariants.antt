use Rattle.std.proofs.Common.{◌≡◌, map, drop}
use Rattle.pb_core_language.specs.Rules.{is_seat}
use Rattle.pb_plain.specs.View.{seat_of}
use Rattle.pb_plain_rules.proofs.end_rule.is_seat.Given as goal

abbrev pub invariant-loop-other : goal.invariant-loop-other
invariant-loop-other l = is_seat (seat_of l.seat) (map seat_of (drop l.other-index l.seats)) ≡ is_seat (seat_of l.seat) (map seat_of l.seats)
