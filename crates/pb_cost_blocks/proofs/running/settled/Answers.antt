use Rattle.std.proofs.lemmas.Result.{err_from_is_err_and, MatchResult-weaker}
use Rattle.pb_cost_blocks.proofs.Runs.{stays, becomes_one, one_stops, none_stops}
use Rattle.pb_cost_blocks.proofs.running.settled.Goals as goal

pub returns-then-are_short : goal.returns-then-are_short
returns-then-are_short c = stays c.args.sum c.args.recent c.requires.left c.requires.right c.requires.span c.requires.light (c.are_short.ensures c.if-are_short.true)

pub returns-in_err-sum : goal.returns-in_err-sum
returns-in_err-sum c =
    let p = err_from_is_err_and c.from_residual.result c.from_residual.ensures.1 in
    rw (p.1, p.2) (one_stops c.args.sum c.args.recent c.in_err-sum.field-0.0 c.in_err-sum.ensures)

pub returns : goal.returns
returns c = MatchResult-weaker c.alone.result c.alone.ensures (becomes_one c.args.sum c.args.recent c.in_ok-sum.sum c.in_ok-sum.ensures) (none_stops c.args.sum c.args.recent c.in_ok-sum.sum c.in_ok-sum.ensures)
