use Rattle.std.proofs.Common.{◌≡◌, ◌≤◌, ◌+◌, ◌++◌, drop, length, map}
use Rattle.pb_local.specs.Tree.{program_of, plain, plain_all, parts_of}
use Rattle.pb_typed_print.proofs.Appended.{all_text, parts_text}
use Rattle.pb_typed_print.proofs.statements.+push.Given as goal

abbrev pub invariant-push_all-loop-stmt : goal.invariant-push_all-loop-stmt
invariant-push_all-loop-stmt l = record {
  text : l.out.items ++ all_text (program_of l.local) l.types l.depth (plain_all (drop l.stmt-index l.list)) ≡ l.initial.out.items ++ all_text (program_of l.local) l.types l.depth (plain_all l.list);
  long : l.depth + 2 ≤ length l.out.items;
}

abbrev pub invariant-push_stmt-loop-number : goal.invariant-push_stmt-loop-number
invariant-push_stmt-loop-number l = record {
  text : l.out.items ++ parts_text (program_of l.local) l.types l.depth l.number (parts_of (map (λ v. map plain v.items) (drop l.number l.branch-items))) ≡ l.initial.out.items ++ parts_text (program_of l.local) l.types l.depth 0 (parts_of (map (λ v. map plain v.items) l.branch-items));
  long : l.depth + 2 ≤ length l.out.items;
}
