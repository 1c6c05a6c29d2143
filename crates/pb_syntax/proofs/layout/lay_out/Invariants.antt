use Rattle.std.proofs.Common.{◌≡◌, ◌≤◌, ◌++◌, drop}
use Rattle.pb_syntax.specs.Layout.{laid, laid_out}
use Rattle.pb_syntax.proofs.layout.lay_out.Given as goal

abbrev pub invariant-loop-kind : goal.invariant-loop-kind
invariant-loop-kind l = record {
  so_far : l.out.items ++ laid l.last l.depth (drop l.kind-index l.kinds) ≡ laid_out l.kinds;
  depth : l.depth ≤ l.kind-index;
}
