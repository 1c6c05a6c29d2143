use Rattle.std.proofs.Common.{◌≡◌, drop}
use Rattle.pb_strips_faults.specs.Faults.{columns_at}
use Rattle.pb_strips_faults.proofs.declared_columns.columns_at.Given as goal

abbrev pub invariant-loop-role : goal.invariant-loop-role
invariant-loop-role l = columns_at (drop l.role-index l.roles) l.name ≡ columns_at l.roles l.name
