use Rattle.std.proofs.Common.{◌≡◌, drop}
use Rattle.pb_do_syntax.specs.Names.{is_named, role_names}
use Rattle.pb_do_faults.proofs.outsiders.has_role.Given as goal

abbrev pub invariant-loop-role : goal.invariant-loop-role
invariant-loop-role l = is_named l.name (role_names (drop l.role-index l.roles)) ≡ is_named l.name (role_names l.roles)
