use Rattle.std.proofs.Common.{◌≡◌, take, length, All}
use Rattle.pb_sim_collectives.specs.Lists.{items_of, starts_of, IsKept}
use Rattle.pb_sim_collectives.proofs.lists.Lists.forget.Given as goal

abbrev pub invariant-loop-rank : goal.invariant-loop-rank
invariant-loop-rank l = record {
  long : length l.self.list.items ≡ length l.fn.self.list.items;
  same : items_of l.self ≡ items_of l.fn.self;
  kept : IsKept l.self l.k;
  done : All (λ n. n ≡ l.k) (take l.rank (starts_of l.self));
}
