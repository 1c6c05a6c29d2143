use Rattle.pb_judge_lists.specs.Places.{left_of}
use Rattle.pb_judge_lists.proofs.Passes.{least_left}
use Rattle.pb_judge_lists.proofs.lists.Lists.least_left.Goals as goal

pub returns-in-Some : goal.returns-in-Some
returns-in-Some c = least_left (left_of c.args.self.now) c.loop-rank.rank c.line_of.result c.in-Some.entry.now c.in-Some.ensures c.line_of.ensures c.loop-rank.invariant
