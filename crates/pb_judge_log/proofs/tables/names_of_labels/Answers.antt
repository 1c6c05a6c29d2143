use Rattle.pb_judge_log.proofs.Interning.{row_next}
use Rattle.pb_judge_log.proofs.tables.names_of_labels.Goals as goal

pub loop-label-preserved : goal.loop-label-preserved
loop-label-preserved c =
    row_next (λ x. x.name) c.args.labels.now c.label-item.result c.loop-label.names c.intern.new.self c.loop-label.label-index c.in_ok-intern.field-0 c.requires.distinct c.loop-label-test.true c.label-item.is c.loop-label.invariant c.in_ok-intern.ensures.interned
