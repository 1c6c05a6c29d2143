use Rattle.std.proofs.Common.{◌≡◌, ◌++◌, map, drop}
use Rattle.pb_core_language.specs.Rules.{empty_roles}
use Rattle.pb_plain.specs.View.{mark_of}
use Rattle.pb_plain_rules.proofs.roles.empty_roles.Given as goal

abbrev pub invariant-loop-number : goal.invariant-loop-number
invariant-loop-number l = map mark_of l.list.items ++ empty_roles l.number (drop l.number l.roles) l.n ≡ empty_roles 0 l.roles l.n
