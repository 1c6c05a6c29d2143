use Rattle.std.proofs.Common.{◌≡◌, ◌++◌, drop, map}
use Rattle.pb_ctree.specs.Trees.{sum_of}
use Rattle.pb_cprint.specs.Framed.{numbers_written}
use Rattle.pb_cprint.proofs.text.push_numbers.Given as goal

abbrev pub invariant-loop-at : goal.invariant-loop-at
invariant-loop-at l = l.out.items ++ numbers_written (drop l.at l.roles) (map sum_of (drop l.at l.places)) ≡ l.initial.out.items ++ numbers_written l.roles (map sum_of l.places)
