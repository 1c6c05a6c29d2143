use Rattle.pb_cli_demo.proofs.Runs.{run_ended, run_full, run_going, run_stuck}
use Rattle.pb_cli_demo.proofs.run.played.Goals as goal

pub unreachable-requires : goal.unreachable-requires
unreachable-requires g c =
    run_stuck c.args.seed c.args.sim.now.held.state.tree c.args.sim.now.held c.requires.begun c.requires.compiled
    (λ r k w. g.A.Fn.post c.args.sim.now.answers.answer (c.args.sim.now.answers.seed, (r, (k, tt))) w) c.play.new.sim.held c.in-Made.ensures c.in-Stuck.rank c.in-Stuck.cause c.in-Stuck.ensures

pub returns-in-Ended-clause-counts : goal.returns-in-Ended-clause-counts
returns-in-Ended-clause-counts g c =
    run_ended c.args.seed c.args.sim.now.held.state.tree c.args.sim.now.held c.requires.begun c.requires.compiled
    (λ r k w. g.A.Fn.post c.args.sim.now.answers.answer (c.args.sim.now.answers.seed, (r, (k, tt))) w) c.play.new.sim.held c.in-Made.ensures c.in-Ended.ensures c.counts.result c.counts.ensures

pub returns-in-Going-clause-denied : goal.returns-in-Going-clause-denied
returns-in-Going-clause-denied g c =
    run_going c.args.seed c.args.sim.now.held.state.tree c.args.sim.now.held c.requires.begun c.requires.compiled
    (λ r k w. g.A.Fn.post c.args.sim.now.answers.answer (c.args.sim.now.answers.seed, (r, (k, tt))) w) c.play.new.sim.held c.in-Made.ensures c.in-Going.ensures

pub returns-in-Full-clause-denied : goal.returns-in-Full-clause-denied
returns-in-Full-clause-denied g c =
    run_full c.args.seed c.args.sim.now.held.state.tree c.args.sim.now.held c.requires.begun c.requires.compiled
    (λ r k w. g.A.Fn.post c.args.sim.now.answers.answer (c.args.sim.now.answers.seed, (r, (k, tt))) w) c.play.new.sim.held c.in-Full.ensures
