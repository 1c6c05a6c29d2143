use Rattle.std.proofs.Common.{◌≡◌, drop}
use Rattle.pb_renew_merge.specs.Left.{first_twice}
use Rattle.pb_renew_merge.proofs.left.first_twice.Given as goal

abbrev pub invariant-loop-name : goal.invariant-loop-name
invariant-loop-name l = first_twice l.left l.old l.names ≡ first_twice l.left l.old (drop l.name-index l.names)
