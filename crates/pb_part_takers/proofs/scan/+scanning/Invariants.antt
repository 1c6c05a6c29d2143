use Rattle.std.proofs.Common.{◌≡◌, drop}
use Rattle.pb_part_takers.proofs.Quiet.{stands_in, stands_across}
use Rattle.pb_part_takers.proofs.scan.+scanning.Given as goal

abbrev pub invariant-is_within-loop-stmt : goal.invariant-is_within-loop-stmt
invariant-is_within-loop-stmt l = stands_in l.number (drop l.stmt-index l.stmt-items) ≡ stands_in l.number l.stmt-items

abbrev pub invariant-is_across-loop-branch : goal.invariant-is_across-loop-branch
invariant-is_across-loop-branch l = stands_across l.number (drop l.branch-index l.branches) ≡ stands_across l.number l.branches
