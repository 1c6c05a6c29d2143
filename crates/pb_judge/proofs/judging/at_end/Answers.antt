use Rattle.pb_judge_lists.specs.Places.{left_of}
use Rattle.pb_judge.proofs.Whole.{over_is}
use Rattle.pb_judge.proofs.judging.at_end.Goals as goal

pub returns : goal.returns
returns c = λ s protocol log h. c.left_over.ensures s protocol log h.beyond (λ used. over_is s protocol log (left_of c.args.lists.now) c.owes.result c.over.result c.over.ensures c.owes.ensures h used)
