use Rattle.std.proofs.Common.{SFits, w64, to_z-of_z, rules}
use Rattle.pb_sim.proofs.Runs.{begun_by}
use Rattle.pb_sim.proofs.seen.Seen.new.Goals as goal

pub returns-clause-begun : goal.returns-clause-begun
returns-clause-begun c =
    let f : SFits w64 c.args.n = search rules in
    begun_by c.args.tree c.args.n c.refresh_all.new.self c.in_ok-state.state (simp to_z-of_z at c.in_ok-state.ensures) c.refresh_all.ensures.state c.requires.number c.requires.total c.requires.few c.refresh_all.ensures.counts c.refresh_all.ensures.steps
