use Rattle.std.proofs.Common.{◌≡◌, drop}
use Rattle.pb_do_syntax.specs.Names.{role_names}
use Rattle.pb_do_faults.specs.Strangers.{all_unless_known}
use Rattle.pb_do_faults.specs.Found.{first}
use Rattle.pb_do_faults.proofs.outsiders.unless_all_roles.Given as goal

abbrev pub invariant-loop-arg : goal.invariant-loop-arg
invariant-loop-arg l = first (all_unless_known (role_names l.roles) (drop l.arg-index l.args)) ≡ first (all_unless_known (role_names l.roles) l.args)
