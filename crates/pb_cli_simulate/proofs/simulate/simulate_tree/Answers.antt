use Rattle.std.proofs.Common.{◌≡◌, ℤ, pos, length, map, ap, sym, subst, ◌∙◌, rules}
use Rattle.pb_cli_status.specs.Lines as L
use Rattle.pb_cli_words.specs.declared.options.Shown.TheVariants as H
use Rattle.pb_sim.specs.Made.{IsNoStart}
use Rattle.pb_sim_play.specs.Plans.{drawn, given, pair_of}
use Rattle.pb_sim_play.proofs.Turns.{carry}
use Rattle.pb_cli_status.specs.Written.{Says}
use Rattle.pb_cli_simulate.specs.Replies.{SaysReply}
use Rattle.pb_cli_simulate.proofs.Told.{denied}
use Rattle.pb_cli_simulate.proofs.simulate.simulate_tree.Goals as goal

pub returns-in-Err-clause-told : goal.returns-in-Err-clause-told
returns-in-Err-clause-told g c =
    denied c.args.tree c.args.options.n (λ r k w. g.A.Fn.post c.args.answers (c.args.options.seed, (r, (k, tt))) w) (drawn c.args.options.seed c.args.options.modes) c.args.options.turns c.args.options.shown c.args.options.seed c.in-Err.fault (g.O.Sink.taken c.args.out.now) (g.O.Sink.taken c.refuse.new.out) c.refuse.result
    c.in-Err.ensures.out
    (subst (λ r. Says (L.status_of r) (L.line_of r) c.refuse.result (g.O.Sink.taken c.args.out.now) (g.O.Sink.taken c.refuse.new.out)) c.refusal_of.ensures c.refuse.ensures.said)

pub returns-in-Ok-clause-told : goal.returns-in-Ok-clause-told
returns-in-Ok-clause-told g c =
    carry (λ t a s. SaysReply t c.args.options.n (λ r k w. g.A.Fn.post a (s, (r, (k, tt))) w) (drawn c.args.options.seed c.args.options.modes) c.args.options.turns c.args.options.shown c.args.options.seed c.by_seed.result (g.O.Sink.taken c.args.out.now) (g.O.Sink.taken c.by_seed.new.out))
    c.in-Ok.sim.held.state.tree c.args.tree c.in-Ok.sim.answers.answer c.args.answers c.in-Ok.sim.answers.seed c.args.options.seed
    c.in-Ok.ensures.begun.tree_is (ap (λ z. z.answer) c.in-Ok.ensures.answers ∙ c.new-answers.ensures.answer) (ap (λ z. z.seed) c.in-Ok.ensures.answers ∙ c.new-answers.ensures.seed) c.by_seed.ensures.told
