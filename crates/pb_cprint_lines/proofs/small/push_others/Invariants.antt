use Rattle.std.proofs.Common.{◌≡◌, ◌++◌, drop}
use Rattle.pb_ctree.specs.Small.{others_text}
use Rattle.pb_cprint_lines.proofs.small.push_others.Given as goal

abbrev pub invariant-loop-guard : goal.invariant-loop-guard
invariant-loop-guard l = l.out.items ++ others_text (drop l.guard-index l.guards) ≡ l.initial.out.items ++ others_text l.guards
