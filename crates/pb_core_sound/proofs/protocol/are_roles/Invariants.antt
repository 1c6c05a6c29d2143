use Rattle.std.proofs.Common.{◌≡◌, drop}
use Rattle.pb_core_language.specs.Sound.{are_roles}
use Rattle.pb_core_sound.proofs.protocol.are_roles.Given as goal

abbrev pub invariant-loop-role : goal.invariant-loop-role
invariant-loop-role l = are_roles (drop l.role-index l.roles) ≡ are_roles l.roles
