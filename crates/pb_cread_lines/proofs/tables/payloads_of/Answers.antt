use Rattle.pb_cread_lines.proofs.Interning.{finds_next}
use Rattle.pb_cread_lines.proofs.tables.payloads_of.Goals as goal

pub loop-at-preserved : goal.loop-at-preserved
loop-at-preserved c = finds_next c.loop-at.payloads c.put.new.self c.args.labels.now c.loop-at.at c.index-labels-at.result c.loop-at-test.true c.loop-at.invariant c.in_ok-put.ensures.here c.in_ok-put.ensures.others
