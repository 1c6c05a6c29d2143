use Rattle.pb_affine.specs.Values.{value}
use Rattle.pb_judge_blocks.specs.Places.{IsSite, IsTurn}
use Rattle.pb_judge_blocks.proofs.Numbering.{Passed}
use Rattle.pb_judge_blocks.proofs.ranks.rank_of.Given as goal

abbrev pub invariant-loop-number : goal.invariant-loop-number
invariant-loop-number l = IsSite l.site → IsTurn l.i → Passed l.site.roles.now l.site.n (record { role = l.end.role; index = value l.end.at l.site.n l.i }) l.number l.before
