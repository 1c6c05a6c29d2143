use Rattle.pb_cases.specs.Spans.{IsTops}
use Rattle.pb_cases.proofs.spans.tops_of.Given as goal

abbrev pub invariant-loop-high : goal.invariant-loop-high
invariant-loop-high l = IsTops l.highs l.tops.items l.high-index
