use Rattle.std.proofs.Common.{◌≡◌, drop}
use Rattle.pb_strips_flatten.specs.Excess.{first_long}
use Rattle.pb_strips_flatten.proofs.roles.first_long.Given as goal

abbrev pub invariant-loop-role : goal.invariant-loop-role
invariant-loop-role l = first_long (drop l.role-index l.roles) ≡ first_long l.roles
