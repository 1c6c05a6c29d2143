use Rattle.std.proofs.lemmas.Result.{MatchResult-weaker}
use Rattle.pb_cost_blocks.proofs.Steps.{begun_few, begun_many}
use Rattle.pb_cost_blocks.proofs.running.begun.Goals as goal

pub returns : goal.returns
returns c = MatchResult-weaker c.few.result c.few.ensures (λ x p. begun_few c.args.span c.in_ok-none.none x c.in_ok-none.ensures p.0 p.1) (λ e p. begun_many c.args.span c.in_ok-none.none e c.in_ok-none.ensures p.0 p.1)
