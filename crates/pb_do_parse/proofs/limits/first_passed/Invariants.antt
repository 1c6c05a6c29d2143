use Rattle.std.proofs.Common.{◌≡◌, ◌≤◌, take}
use Rattle.pb_do_parse.specs.Limits.{AreWithin, counts}
use Rattle.pb_do_parse.proofs.limits.first_passed.Given as goal

abbrev pub invariant-loop-i : goal.invariant-loop-i
invariant-loop-i l = record {
  within : AreWithin (take l.i l.tokens);
  counted : l.counts ≡ counts (take l.i l.tokens);
  depth : l.counts.depth ≤ 64;
}
