use Rattle.pb_judge_log.proofs.Interning.{row_next}
use Rattle.pb_judge_log.proofs.tables.names_of_kernels.Goals as goal

pub loop-kernel-preserved : goal.loop-kernel-preserved
loop-kernel-preserved c =
    row_next (λ x. x.name) c.args.kernels.now c.kernel-item.result c.loop-kernel.names c.intern.new.self c.loop-kernel.kernel-index c.in_ok-intern.field-0 c.requires.distinct c.loop-kernel-test.true c.kernel-item.is c.loop-kernel.invariant c.in_ok-intern.ensures.interned
