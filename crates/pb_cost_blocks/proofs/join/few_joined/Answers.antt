use Rattle.std.proofs.lemmas.Result.{MatchResult-weaker}
use Rattle.pb_cost_blocks.specs.Answers.{IsJoined}
use Rattle.pb_cost_blocks.proofs.Steps.{joined_few, joined_many}
use Rattle.pb_cost_blocks.proofs.join.few_joined.Goals as goal

pub returns-in-Ok : goal.returns-in-Ok
returns-in-Ok c =
    let j : IsJoined c.args.join c.args.a.now c.args.b.now c.in-Ok.count = record { count = c.in-Ok.ensures.count; on = c.in-Ok.ensures.span; says = c.in-Ok.ensures.says; weighs = c.in-Ok.ensures.weight } in
    MatchResult-weaker c.few.result c.few.ensures (λ x p. joined_few c.args.join c.args.a.now c.args.b.now c.in-Ok.count x j p.0 p.1) (λ e p. joined_many c.args.join c.args.a.now c.args.b.now c.in-Ok.count e j p.0 p.1)
