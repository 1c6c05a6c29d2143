use Rattle.std.proofs.Common.{◌≤◌, ◌∙◌, ℕ, refl, ap, subst, SFits, w64, to_z-of_z, rules}
use Rattle.pb_sim_world.specs.Starts.{AreStarts}
use Rattle.pb_sim_collectives.specs.Lists.{replicated}
use Rattle.pb_sim_world.proofs.Starting.{is_start}
use Rattle.pb_sim_world.proofs.state.State.new.Goals as goal

pub returns : goal.returns
returns c =
    let f : SFits w64 c.args.n = search rules in
    simp to_z-of_z (
    is_start (record { tree = c.args.tree; n = c.args.n; ranks = c.in_ok-ranks.ranks; stands = c.in_ok-stands.stands; channels = c.new-2.result; joins = c.in_ok-joins.joins })
    c.in_ok-stands.ensures.each
    (subst (λ (k : ℕ). AreStarts c.args.tree c.args.n k c.in_ok-ranks.ranks.items) c.requires.total (simp to_z-of_z at c.in_ok-ranks.ensures))
    c.new-2.ensures.empty c.in_ok-joins.ensures.calls (c.in_ok-joins.ensures.words ∙ ap replicated c.requires.total)
    c.args.tree c.args.n refl refl c.requires.tree c.requires.some c.requires.range
    (subst (λ (k : ℕ). k ≤ 1024) c.requires.total c.requires.few) (c.in_ok-stands.ensures.long ∙ c.requires.total) c.new-2.ensures.words)
