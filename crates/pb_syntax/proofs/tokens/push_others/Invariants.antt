use Rattle.std.proofs.Common.{◌≡◌, drop}
use Rattle.pb_syntax.specs.Printed.{comma_tokens}
use Rattle.pb_syntax.proofs.tokens.push_others.Given as goal

abbrev pub invariant-loop-role : goal.invariant-loop-role
invariant-loop-role l = record {
  so_far : comma_tokens (drop l.role-index l.roles) l.out.items ≡ comma_tokens l.roles l.initial.out.items;
}
