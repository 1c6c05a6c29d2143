use Rattle.std.proofs.Common.{◌≡◌, ◌<◌, ◌^◌, max, drop}
use Rattle.pb_local.specs.Tree.{plain_all}
use Rattle.pb_machine_next.specs.Heights.{height_all, height_parts}
use Rattle.pb_machine_next.proofs.Plains.{parts}
use Rattle.pb_machine.proofs.sizes.+height.Given as goal

abbrev pub invariant-height-loop-stmt : goal.invariant-height-loop-stmt
invariant-height-loop-stmt l = l.most < 2 ^ 60 → max l.most (height_all (plain_all (drop l.stmt-index l.list))) ≡ height_all (plain_all l.list)

abbrev pub invariant-height_at-loop-branch : goal.invariant-height_at-loop-branch
invariant-height_at-loop-branch l = l.most < 2 ^ 60 → max l.most (height_parts (parts (drop l.branch-index l.branch-items))) ≡ height_parts (parts l.branch-items)
