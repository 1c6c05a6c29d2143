use Rattle.std.proofs.Common.{◌≡◌, ◌++◌, map, drop}
use Rattle.pb_rules.specs.CutLists.{lin_at}
use Rattle.pb_rules.proofs.offsets.push_all.Given as goal

abbrev pub invariant-loop-off : goal.invariant-loop-off
invariant-loop-off l = l.cuts.items ++ map (lin_at l.base) (drop l.off-index l.offsets) ≡ l.fn.cuts.items ++ map (lin_at l.base) l.offsets
