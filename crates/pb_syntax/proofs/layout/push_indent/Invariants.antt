use Rattle.std.proofs.Common.{◌≡◌, ◌-◌, ◌++◌}
use Rattle.pb_syntax.specs.Layout.{indent}
use Rattle.pb_syntax.proofs.layout.push_indent.Given as goal

abbrev pub invariant-loop : goal.invariant-loop
invariant-loop l = record {
  so_far : l.out.items ++ indent (l.depth - l.counter) ≡ l.initial.out.items ++ indent l.depth;
}
