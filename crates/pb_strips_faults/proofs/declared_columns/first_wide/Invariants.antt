use Rattle.std.proofs.Common.{◌≡◌, drop}
use Rattle.pb_strips_faults.specs.Faults.{width}
use Rattle.pb_strips_faults.specs.Found.{first}
use Rattle.pb_strips_faults.proofs.declared_columns.first_wide.Given as goal

abbrev pub invariant-loop-role : goal.invariant-loop-role
invariant-loop-role l = first (width (drop l.role-index l.roles)) ≡ first (width l.roles)
