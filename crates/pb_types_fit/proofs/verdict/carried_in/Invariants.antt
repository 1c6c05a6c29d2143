use Rattle.std.proofs.Common.{◌≡◌, drop}
use Rattle.pb_types_fit.specs.Carries.{carried_in}
use Rattle.pb_types_fit.proofs.verdict.carried_in.Given as goal

abbrev pub invariant-loop-row : goal.invariant-loop-row
invariant-loop-row l =
    carried_in l.constants (drop l.row-index l.rows) l.name ≡ carried_in l.constants l.rows l.name
