use Rattle.pb_cread_lines.specs.Head.{FindsFirst}
use Rattle.pb_cread_lines.proofs.tables.payloads_of.Given as goal

abbrev pub invariant-loop-at : goal.invariant-loop-at
invariant-loop-at l = FindsFirst l.payloads l.labels l.at
