use Rattle.pb_draw_log.proofs.Taken.{begun}
use Rattle.pb_draw_log.proofs.log.read_log.Goals as goal

pub take_lines-requires-clause-begun : goal.take_lines-requires-clause-begun
take_lines-requires-clause-begun c = begun c.args.bytes.now c.new-table.result _ c.new-table.ensures c.new.ensures.items c.new-2.ensures.items
