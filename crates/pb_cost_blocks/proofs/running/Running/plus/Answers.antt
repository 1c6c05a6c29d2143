use Rattle.std.proofs.lemmas.Result.{MatchResult-weaker}
use Rattle.pb_cost_blocks.proofs.Runs.{plus_runs, plus_stops}
use Rattle.pb_cost_blocks.proofs.running.Running.plus.Goals as goal

pub returns : goal.returns
returns c =
    MatchResult-weaker c.settled.result c.settled.ensures
    (plus_runs c.args.self c.args.next.now c.in_ok-recent.recent c.requires.counts c.in_ok-recent.ensures)
    (plus_stops c.args.self c.args.next.now c.in_ok-recent.recent c.requires.counts c.in_ok-recent.ensures)
