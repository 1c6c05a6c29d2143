use Rattle.std.proofs.Common.{◌≡◌, ◌++◌, map, drop}
use Rattle.pb_plain.specs.View.{seat_of, seats_of_role}
use Rattle.pb_plain.proofs.ranks.add_indices.Given as goal

abbrev pub invariant-loop-index : goal.invariant-loop-index
invariant-loop-index l = map seat_of l.list.items ++ seats_of_role l.role (drop l.index-index l.indices) ≡ map seat_of l.fn.list.items ++ seats_of_role l.role l.indices
