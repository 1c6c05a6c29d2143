use Rattle.std.proofs.Common.{◌-◌, ◌≡◌, ◌≤◌, map, drop}
use Rattle.pb_sim_collectives.proofs.window.Window.forget.Given as goal

abbrev pub invariant-loop-self : goal.invariant-loop-self
invariant-loop-self l = record {
  order : l.self-inside.from ≤ l.k;
  same : map (λ x. x.value) l.self-inside.said.items ≡ l.fn.self.all;
  kept : l.self-inside.kept.items ≡ drop l.self-inside.from (map (λ x. x.value) l.self-inside.said.items);
}

abbrev pub decreases-loop-self : goal.decreases-loop-self
decreases-loop-self l = l.k - l.self-inside.from
