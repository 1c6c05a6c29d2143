use Rattle.std.proofs.Common.{◌+◌, ◌-◌, length, drop}
use Rattle.pb_cost_joins.specs.Merging.{IsReading, ReadsOn}
use Rattle.pb_cost_joins.proofs.merging.merge.Given as goal

abbrev pub invariant-parts : goal.invariant-parts
invariant-parts l = record {
  reading : IsReading l.join l.left l.right (drop l.i l.left) (drop l.j l.right) l.builder.done.items l.builder.latest;
  on : ReadsOn l.join l.left l.right l.initial.builder.done.items l.initial.builder.latest (drop l.i l.left) (drop l.j l.right) l.builder.done.items l.builder.latest;
}

abbrev pub decreases-parts : goal.decreases-parts
decreases-parts l = (length l.left - l.i) + (length l.right - l.j)
