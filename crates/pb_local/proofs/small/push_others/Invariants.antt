use Rattle.std.proofs.Common.{◌≡◌, ◌++◌, drop}
use Rattle.pb_local.specs.Layout.{others_text}
use Rattle.pb_local.specs.Tree.{program_of}
use Rattle.pb_local.proofs.small.push_others.Given as goal

abbrev pub invariant-loop-guard : goal.invariant-loop-guard
invariant-loop-guard l = l.out.items ++ others_text (program_of l.local) (drop l.guard-index l.guards) ≡ l.initial.out.items ++ others_text (program_of l.local) l.guards
