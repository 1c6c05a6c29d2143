use Rattle.pb_plain.specs.View.{collective_of}
use Rattle.pb_plain_run.proofs.Added.{entries_step}
use Rattle.pb_plain_run.proofs.collectives.use_entries.Goals as goal

pub loop-rank-preserved : goal.loop-rank-preserved
loop-rank-preserved c =
    entries_step c.args.setting.now (collective_of c.args.joint.now) _ _ _ c.loop-rank.rank c.weight.result c.loop-rank.invariant c.weight.ensures c.use_entry.ensures
