use Rattle.std.proofs.Common.{◌≡◌, ◌++◌}
use Rattle.pb_strips_syntax.specs.Columns.{numbers}
use Rattle.pb_strips_syntax.specs.Flattening.{column_roles}
use Rattle.pb_strips_flatten.proofs.role_list.RoleList.strip.Given as goal

abbrev pub invariant-loop-column : goal.invariant-loop-column
invariant-loop-column l =
    l.self.list.items ++ column_roles l.role l.rows (numbers l.column l.high) ≡ l.fn.self.list.items ++ column_roles l.role l.rows (numbers l.low l.high)
