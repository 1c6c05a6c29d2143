use Rattle.pb_strips_faults.proofs.Alike.{columns_next}
use Rattle.pb_strips_faults.proofs.table.Table.add_columns.Goals as goal

pub loop-column-preserved : goal.loop-column-preserved
loop-column-preserved c =
    columns_next c.loop-column.self.names c.add_column.new.self.names c.args.strip.now c.loop-column.column-counter _ _ c.loop-column-test.true c.in_ok-add_column.ensures c.loop-column.invariant
