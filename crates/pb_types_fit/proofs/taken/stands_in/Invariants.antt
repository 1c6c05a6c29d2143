use Rattle.std.proofs.Common.{◌≡◌, drop}
use Rattle.pb_types_fit.specs.Taken.{stands_in}
use Rattle.pb_types_fit.proofs.taken.stands_in.Given as goal

abbrev pub invariant-loop-at : goal.invariant-loop-at
invariant-loop-at l =
    stands_in l.word (drop l.at l.text) ≡ stands_in l.word l.text
