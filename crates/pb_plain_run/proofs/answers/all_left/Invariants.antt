use Rattle.std.proofs.Common.{◌≡◌, ◌++◌, map, drop}
use Rattle.pb_plain_run.specs.View.{left_of, answers_of}
use Rattle.pb_plain_run.proofs.answers.all_left.Given as goal

abbrev pub invariant-loop-rank : goal.invariant-loop-rank
invariant-loop-rank l = map left_of l.ranks.items ++ map answers_of (drop l.rank-index l.answers) ≡ map answers_of l.answers
