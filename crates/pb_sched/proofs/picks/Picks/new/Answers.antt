use Rattle.std.proofs.Common.{◌∙◌}
use Rattle.pb_sched.proofs.Steps.{at_start}
use Rattle.pb_sched.proofs.picks.Picks.new.Goals as goal

pub invariant_of-result : goal.invariant_of-result
invariant_of-result c = c.new.ensures ∙ at_start c.args.seed
