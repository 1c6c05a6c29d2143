use Rattle.std.proofs.Common.{◌≡◌, ℤ, pos, length, map, sym, subst, ◌∙◌, rules}
use Rattle.pb_local.specs.Tree.{program_of}
use Rattle.pb_ctree.specs.declared.tree.CTree.{CTree}
use Rattle.pb_cli_words.specs.declared.options.Shown.TheVariants as H
use Rattle.pb_sim_play.specs.Plans.{drawn, given, pair_of}
use Rattle.pb_sim_play.specs.Endings.{Tells}
use Rattle.pb_cli_status.specs.Written.{Says}
use Rattle.pb_cli_simulate.specs.Endings.{last_line, status_of}
use Rattle.pb_cli_simulate.proofs.Told.{early, told, begun_starts}
use Rattle.pb_cli_simulate.proofs.simulate.by_seed.Goals as goal

pub finish-requires : goal.finish-requires
finish-requires g c = record {
  few =
      early c.args.sim.now.held.state.tree c.args.options.n (λ r k w. g.A.Fn.post c.args.sim.now.answers.answer (c.args.sim.now.answers.seed, (r, (k, tt))) w) (drawn c.args.options.seed c.args.options.modes) c.args.options.turns c.args.options.shown c.args.options.seed c.requires.few c.simulate_by_seed-ending.result (g.O.Sink.taken c.args.out.now) (g.O.Sink.taken c.simulate_by_seed-ending.new.out)
      (subst (λ (m : ℤ). Tells c.args.sim.now.held.state.tree m (λ r k w. g.A.Fn.post c.args.sim.now.answers.answer (c.args.sim.now.answers.seed, (r, (k, tt))) w) (drawn c.args.options.seed c.args.options.modes) c.args.options.turns c.args.options.shown c.args.options.seed c.simulate_by_seed-ending.result (g.O.Sink.taken c.args.out.now) (g.O.Sink.taken c.simulate_by_seed-ending.new.out)) c.requires.begun.n_is c.simulate_by_seed-ending.ensures.told);
}

pub returns-clause-told : goal.returns-clause-told
returns-clause-told g c =
    told c.args.sim.now.held.state.tree c.args.options.n (λ r k w. g.A.Fn.post c.args.sim.now.answers.answer (c.args.sim.now.answers.seed, (r, (k, tt))) w) (drawn c.args.options.seed c.args.options.modes) c.args.options.turns c.args.options.shown c.args.options.seed (begun_starts c.args.sim.now.held.state.tree c.args.options.n c.args.sim.now.held c.requires.begun)
    (g.O.Sink.taken c.args.out.now) (g.O.Sink.taken c.simulate_by_seed-ending.new.out) (g.O.Sink.taken c.finish.new.out) c.finish.result c.simulate_by_seed-ending.result
    (subst (λ (m : ℤ). Tells c.args.sim.now.held.state.tree m (λ r k w. g.A.Fn.post c.args.sim.now.answers.answer (c.args.sim.now.answers.seed, (r, (k, tt))) w) (drawn c.args.options.seed c.args.options.modes) c.args.options.turns c.args.options.shown c.args.options.seed c.simulate_by_seed-ending.result (g.O.Sink.taken c.args.out.now) (g.O.Sink.taken c.simulate_by_seed-ending.new.out)) c.requires.begun.n_is c.simulate_by_seed-ending.ensures.told)
    (subst (λ (t : CTree). Says (status_of c.simulate_by_seed-ending.result) (last_line (program_of t.local) c.args.options.turns c.args.options.shown c.simulate_by_seed-ending.result) c.finish.result (g.O.Sink.taken c.simulate_by_seed-ending.new.out) (g.O.Sink.taken c.finish.new.out))
    (c.tree.ensures ∙ c.simulate_by_seed-ending.ensures.tree) c.finish.ensures.said)
