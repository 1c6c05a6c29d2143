use Rattle.std.proofs.Common.{◌≡◌, ◌++◌, drop}
use Rattle.pb_part_firsts.proofs.parts.add_areas.Given as goal

abbrev pub invariant-loop-a : goal.invariant-loop-a
invariant-loop-a l = record { is : l.out.items ++ drop l.a-index l.list ≡ l.initial.out.items ++ l.list }
