use Rattle.std.proofs.lemmas.Result.{MatchResult-weaker}
use Rattle.pb_cost_pieces.specs.declared.join.Join.TheVariants.{Sum}
use Rattle.pb_cost_blocks.specs.Answers.{IsJoined}
use Rattle.pb_cost_blocks.proofs.Runs.{light_ok, light_not}
use Rattle.pb_cost_blocks.proofs.running.light_joined.Goals as goal

pub returns-in-Ok : goal.returns-in-Ok
returns-in-Ok c =
    let j : IsJoined Sum c.args.recent.now c.args.next.now c.in-Ok.count = record { count = c.in-Ok.ensures.count; on = c.in-Ok.ensures.span; says = c.in-Ok.ensures.says; weighs = c.in-Ok.ensures.weight } in
    MatchResult-weaker c.light.result c.light.ensures (λ x p. light_ok c.args.sum.now c.args.recent.now c.args.next.now c.in-Ok.count x j p.0 p.1) (λ e p. light_not c.args.sum.now c.args.recent.now c.args.next.now c.in-Ok.count e j p.0 p.1)
