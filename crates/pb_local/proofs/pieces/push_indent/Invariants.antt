use Rattle.std.proofs.Common.{◌≡◌, ◌++◌, ◌-◌}
use Rattle.pb_local.specs.Pieces.{indent}
use Rattle.pb_local.proofs.pieces.push_indent.Given as goal

abbrev pub invariant-loop : goal.invariant-loop
invariant-loop l = l.out.items ++ indent (l.depth - l.counter) ≡ l.initial.out.items ++ indent l.depth
