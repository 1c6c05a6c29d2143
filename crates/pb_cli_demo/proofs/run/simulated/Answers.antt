use Rattle.std.proofs.Common.{pos, refl, ap, subst, ◌∙◌}
use Rattle.std.specs.Prelude.{IfOk, IfErr}
use Rattle.pb_cli_status.specs.Lines.{line_of, status_of}
use Rattle.pb_sim.specs.Made.{IsNoStart}
use Rattle.pb_sim_play.proofs.Turns.{carry}
use Rattle.pb_cli_demo.specs.Demo.{HasCounts, IsReply}
use Rattle.pb_cli_demo.proofs.Runs.{number, too_many}
use Rattle.pb_cli_demo.proofs.run.simulated.Goals as goal

pub returns-in-Ok-clause-counts : goal.returns-in-Ok-clause-counts
returns-in-Ok-clause-counts g c =
    carry (λ a s (u : Unit {0}). IfOk c.played.result (HasCounts (λ r k w. g.A.Fn.post a (s, (r, (k, tt))) w) c.args.seed))
    c.in-Ok.sim.answers.answer c.args.answers c.in-Ok.sim.answers.seed c.args.seed tt tt
    (ap (λ z. z.answer) c.in-Ok.ensures.answers ∙ c.new-answers.ensures.answer) (ap (λ z. z.seed) c.in-Ok.ensures.answers ∙ c.new-answers.ensures.seed) refl c.played.ensures.counts

pub returns-in-Ok-clause-denied : goal.returns-in-Ok-clause-denied
returns-in-Ok-clause-denied g c =
    carry (λ a s (u : Unit {0}). IfErr c.played.result (λ why. IsReply (λ r k w. g.A.Fn.post a (s, (r, (k, tt))) w) c.args.seed (status_of why) (line_of why)))
    c.in-Ok.sim.answers.answer c.args.answers c.in-Ok.sim.answers.seed c.args.seed tt tt
    (ap (λ z. z.answer) c.in-Ok.ensures.answers ∙ c.new-answers.ensures.answer) (ap (λ z. z.seed) c.in-Ok.ensures.answers ∙ c.new-answers.ensures.seed) refl c.played.ensures.denied

pub unreachable-requires : goal.unreachable-requires
unreachable-requires g c =
    subst (λ f. IsNoStart c.args.tree (pos 8) f) c.in-Err-OutOfRange.field-0-is c.in-Err-OutOfRange.ensures.out (number c.args.seed c.args.tree c.requires.compiled)

pub returns-in-Err-TooManyRanks-clause-denied : goal.returns-in-Err-TooManyRanks-clause-denied
returns-in-Err-TooManyRanks-clause-denied g c =
    too_many c.args.seed c.args.tree (λ r k w. g.A.Fn.post c.args.answers (c.args.seed, (r, (k, tt))) w) c.requires.compiled
    (subst (λ f. IsNoStart c.args.tree (pos 8) f) c.in-Err-TooManyRanks.field-0-is c.in-Err-TooManyRanks.ensures.out).1
