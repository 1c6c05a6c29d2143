use Rattle.std.proofs.Common.{◌≡◌, take}
use Rattle.pb_cases.proofs.cases.copy_of.Given as goal

abbrev pub invariant-loop-cut : goal.invariant-loop-cut
invariant-loop-cut l = l.copy.items ≡ take l.cut-index l.cuts
