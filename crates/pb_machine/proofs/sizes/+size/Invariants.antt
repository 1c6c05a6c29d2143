use Rattle.std.proofs.Common.{◌≡◌, ◌<◌, ◌^◌, ◌+◌, drop}
use Rattle.pb_local.specs.Tree.{plain_all, size_all, size_parts}
use Rattle.pb_machine_next.proofs.Plains.{parts}
use Rattle.pb_machine.proofs.sizes.+size.Given as goal

abbrev pub invariant-size-loop-stmt : goal.invariant-size-loop-stmt
invariant-size-loop-stmt l = l.count < 2 ^ 60 → l.count + size_all (plain_all (drop l.stmt-index l.list)) ≡ size_all (plain_all l.list)

abbrev pub invariant-size_at-loop-branch : goal.invariant-size_at-loop-branch
invariant-size_at-loop-branch l = l.count < 2 ^ 60 → l.count + size_parts (parts (drop l.branch-index l.branch-items)) ≡ 1 + size_parts (parts l.branch-items)
