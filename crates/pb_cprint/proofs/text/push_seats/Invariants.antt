use Rattle.std.proofs.Common.{◌≡◌, ◌++◌, drop, map}
use Rattle.pb_ctree.specs.Trees.{sum_of}
use Rattle.pb_cprint.specs.Framed.{seats_written}
use Rattle.pb_cprint.proofs.text.push_seats.Given as goal

abbrev pub invariant-loop-role : goal.invariant-loop-role
invariant-loop-role l = l.out.items ++ seats_written l.role (map sum_of (drop l.role l.bases)) (map sum_of (drop l.role l.places)) ≡ l.initial.out.items ++ seats_written 0 (map sum_of l.bases) (map sum_of l.places)
