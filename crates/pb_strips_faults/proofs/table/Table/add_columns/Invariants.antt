use Rattle.std.proofs.Common.{◌||◌}
use Rattle.pb_strips_syntax.specs.Columns.{numbers}
use Rattle.pb_strips_faults.specs.Faults.{is_one_of}
use Rattle.pb_strips_faults.specs.Tabled.{is_among, AnswerAlike}
use Rattle.pb_strips_faults.proofs.Alike.{with_columns}
use Rattle.pb_strips_faults.proofs.table.Table.add_columns.Given as goal

abbrev pub invariant-loop-column : goal.invariant-loop-column
invariant-loop-column l =
    AnswerAlike (with_columns l.self.names l.strip l.column-counter l.column-end) (λ x. is_among l.fn.self.names x || is_one_of l.strip (numbers l.ends.0 l.ends.1) x)
