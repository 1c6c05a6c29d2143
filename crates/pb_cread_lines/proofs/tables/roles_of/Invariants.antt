use Rattle.std.proofs.Common.{◌≡◌, take, map}
use Rattle.pb_cread_lines.proofs.tables.roles_of.Given as goal

abbrev pub invariant-loop-role : goal.invariant-loop-role
invariant-loop-role l = l.names ≡ take l.role-index (map (λ x. x.name) l.roles)
