use Rattle.std.proofs.Common.{◌≡◌, ◌<◌, ◌≤◌, ◌+◌, ◌∙◌, ◌⊎◌, inl, inr, ℕ, ap, sym, arith}
use Rattle.std.proofs.lemmas.Bool.{cases_lt}
use Rattle.pb_machine.specs.declared.act.Next.TheVariants.{Ended}
use Rattle.pb_sim_world.specs.States.{next_at}
use Rattle.pb_sim.proofs.seen.Seen.first_left.Goals as goal

pub loop-rank-preserved : goal.loop-rank-preserved
loop-rank-preserved c = λ q lt. by_case q lt (cases_lt q c.loop-rank.rank) where
  by_case : (q : ℕ) → q < c.loop-rank.rank + 1 → (q < c.loop-rank.rank) ⊎ (c.loop-rank.rank ≤ q) → next_at c.args.self.now.state q ≡ Ended
  by_case q lt (inl h) = c.loop-rank.invariant q h
  by_case q lt (inr h) = let e : q ≡ c.loop-rank.rank = omega (arith, lt, h) in ap (next_at c.args.self.now.state) e ∙ sym c.next.ensures ∙ c.in-Ended.is
