use Rattle.pb_sim_collectives.proofs.Entering.{seen_first}
use Rattle.pb_sim_collectives.proofs.Forgetting.{all_kept}
use Rattle.pb_sim_collectives.proofs.joins.Joins.new.Goals as goal

pub invariant_of-result : goal.invariant_of-result
invariant_of-result c = (
  seen_first (record { list = c.new-2.result }) c.in_ok-lists.lists c.args.total c.new-2.ensures.items c.in_ok-lists.ensures.items,
  tt,
  all_kept c.in_ok-lists.lists c.in_ok-lists.ensures.kept,
)
