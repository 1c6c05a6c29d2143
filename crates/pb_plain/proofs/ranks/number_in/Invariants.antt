use Rattle.std.proofs.Common.{◌≡◌, ◌+◌, map, drop}
use Rattle.pb_core_language.specs.Ranks.{number_in}
use Rattle.pb_plain.specs.View.{seat_of}
use Rattle.pb_plain.proofs.ranks.number_in.Given as goal

abbrev pub invariant-loop-number : goal.invariant-loop-number
invariant-loop-number l = l.number + number_in (seat_of l.seat) (map seat_of (drop l.number l.seats)) ≡ number_in (seat_of l.seat) (map seat_of l.seats)
