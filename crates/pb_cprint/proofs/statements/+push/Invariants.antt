use Rattle.std.proofs.Common.{◌≡◌, ◌≤◌, ◌+◌, ◌++◌, drop, length, map}
use Rattle.pb_local.specs.Tree.{program_of, plain, plain_all, parts_of}
use Rattle.pb_cprint.specs.Written.{written_all, written_parts}
use Rattle.pb_cprint.proofs.statements.+push.Given as goal

abbrev pub invariant-push_all-loop-stmt : goal.invariant-push_all-loop-stmt
invariant-push_all-loop-stmt l = record {
  text : l.out.items ++ written_all (program_of l.local) l.depth (plain_all (drop l.stmt-index l.list)) ≡ l.initial.out.items ++ written_all (program_of l.local) l.depth (plain_all l.list);
  long : l.depth + 2 ≤ length l.out.items;
}

abbrev pub invariant-push_stmt-loop-number : goal.invariant-push_stmt-loop-number
invariant-push_stmt-loop-number l = record {
  text : l.out.items ++ written_parts (program_of l.local) l.depth l.number (parts_of (map (λ v. map plain v.items) (drop l.number l.branch-items))) ≡ l.initial.out.items ++ written_parts (program_of l.local) l.depth 0 (parts_of (map (λ v. map plain v.items) l.branch-items));
  long : l.depth + 2 ≤ length l.out.items;
}
