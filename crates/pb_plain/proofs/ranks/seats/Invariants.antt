use Rattle.std.proofs.Common.{◌≡◌, ◌++◌, map, drop}
use Rattle.pb_core_language.specs.Ranks.{seats, seats_from}
use Rattle.pb_plain.specs.View.{seat_of}
use Rattle.pb_plain.proofs.ranks.seats.Given as goal

abbrev pub invariant-loop-number : goal.invariant-loop-number
invariant-loop-number l = map seat_of l.list.items ++ seats_from l.number (drop l.number l.roles) l.n ≡ seats l.roles l.n
