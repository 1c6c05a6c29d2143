use Rattle.pb_diff.proofs.Tabled.{IsTableOf}
use Rattle.pb_diff.proofs.system.least_of.Given as goal

abbrev pub invariant-loop-k : goal.invariant-loop-k
invariant-loop-k l = IsTableOf l.vars l.constraints l.k-index l.table
