use Rattle.std.proofs.Common.{◌≡◌, ◌++◌, true, map, drop}
use Rattle.pb_rules.specs.CutLists.{are_cuts, lin_of, listed, HaveSame}
use Rattle.pb_rules.proofs.cuts.offsets_of.Given as goal

abbrev pub invariant-loop-one : goal.invariant-loop-one
invariant-loop-one l = record {
  small : are_cuts (map lin_of (drop l.one-index l.wide)) ≡ true;
  same : HaveSame (listed l.offsets ++ map lin_of (drop l.one-index l.wide)) (map lin_of l.wide);
}
