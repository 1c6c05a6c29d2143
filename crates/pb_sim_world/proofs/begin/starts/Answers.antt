use Rattle.std.proofs.Common.{◌≡◌, ◌+◌, ℕ, subst, sym, SFits, w64, to_z-of_z, rules}
use Rattle.pb_sim_world.specs.Starts.{AreStarts}
use Rattle.pb_sim_world.proofs.Starting.{at_start, one_start}
use Rattle.pb_sim_world.proofs.begin.starts.Goals as goal

pub loop-rank-preserved : goal.loop-rank-preserved
loop-rank-preserved c =
    let f : SFits w64 c.args.n = search rules in
    simp to_z-of_z (subst (AreStarts c.args.tree.now c.args.n (c.loop-rank.rank + 1)) (sym c.in_ok-push.ensures.items)
    (one_start c.args.tree.now c.args.n c.loop-rank.rank c.loop-rank.ranks.items c.in_ok-sized.field-0 (simp to_z-of_z at c.loop-rank.invariant)
    (at_start c.args.tree.now c.args.n c.loop-rank.rank c.in_ok-sized.field-0 c.in_ok-sized.ensures.fits (simp to_z-of_z at c.in_ok-sized.ensures.n) (simp to_z-of_z at c.in_ok-sized.ensures.start))))

pub returns : goal.returns
returns c =
    let f : SFits w64 c.args.n = search rules in
    let e : c.loop-rank.rank ≡ c.args.total = search rules in
    subst (λ (k : ℕ). AreStarts c.args.tree.now c.args.n k c.loop-rank.ranks.items) e (simp to_z-of_z at c.loop-rank.invariant)
