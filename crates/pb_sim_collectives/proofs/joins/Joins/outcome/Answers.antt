use Rattle.std.proofs.Common.{◌∙◌, ap}
use Rattle.pb_sim_collectives.specs.Joined.{number}
use Rattle.pb_sim_collectives.proofs.Forgetting.{last_is_kept}
use Rattle.pb_sim_collectives.proofs.joins.Joins.outcome.Goals as goal

pub outcome-requires-clause-kept : goal.outcome-requires-clause-kept
outcome-requires-clause-kept c = last_is_kept c.self.inside.lists c.args.rank c.args.k c.self.invariant.2 (ap (λ x. number x c.args.rank) c.self.view_is ∙ c.requires)
