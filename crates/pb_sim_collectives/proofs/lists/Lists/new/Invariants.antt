use Rattle.std.proofs.Common.{◌≡◌, ◌≤◌, ◌-◌, ℕ, map, get_or, vec_len}
use Rattle.pb_sim_collectives.specs.Lists.{replicated}
use Rattle.pb_sim_collectives.proofs.lists.Lists.new.Given as goal

abbrev pub invariant-loop-alloc : goal.invariant-loop-alloc
invariant-loop-alloc l = record {
  is : map (λ w. w.all) l.list.items ≡ replicated (vec_len l.list);
  kept : (r : ℕ) → get_or (map (λ w. w.from) l.list.items) r 0 ≤ 0;
  few : vec_len l.list ≤ l.total;
}

abbrev pub decreases-loop-alloc : goal.decreases-loop-alloc
decreases-loop-alloc l = l.total - vec_len l.list
