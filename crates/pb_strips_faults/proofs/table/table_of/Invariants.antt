use Rattle.std.proofs.Common.{◌||◌, drop}
use Rattle.pb_strips_faults.specs.Faults.{is_column_of_some}
use Rattle.pb_strips_faults.specs.Tabled.{is_among, AnswerAlike}
use Rattle.pb_strips_faults.proofs.table.table_of.Given as goal

abbrev pub invariant-loop-role : goal.invariant-loop-role
invariant-loop-role l = AnswerAlike (λ x. is_among l.table.names x || is_column_of_some (drop l.role-index l.roles) x) (is_column_of_some l.roles)
