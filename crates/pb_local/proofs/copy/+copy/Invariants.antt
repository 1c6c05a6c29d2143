use Rattle.std.proofs.Common.{◌≡◌, ◌++◌, map, drop}
use Rattle.pb_local.specs.Tree.{plain}
use Rattle.pb_local.proofs.copy.+copy.Given as goal

abbrev pub invariant-copy_all-loop-stmt : goal.invariant-copy_all-loop-stmt
invariant-copy_all-loop-stmt l = map plain l.copied.items ++ map plain (drop l.stmt-index l.list) ≡ map plain l.list

abbrev pub invariant-copy_stmt-loop-branch : goal.invariant-copy_stmt-loop-branch
invariant-copy_stmt-loop-branch l =
    map (λ v. map plain v.items) l.parts.items ++ map (λ v. map plain v.items) (drop l.branch-index l.branch-items) ≡ map (λ v. map plain v.items) l.branch-items
