use Rattle.pb_cases.specs.Roles.{IsSoFar}
use Rattle.pb_cases.proofs.cases.Cases.first.Given as goal

abbrev pub invariant-loop-i : goal.invariant-loop-i
invariant-loop-i l = IsSoFar l.self.range l.wanted l.a l.b l.i l.best
