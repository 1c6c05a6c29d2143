use Rattle.pb_choice.proofs.Blocks.{BlockSoFar}
use Rattle.pb_choice.proofs.Passed.{InsideSoFar}
use Rattle.pb_choice.proofs.walk.+walk.Given as goal

abbrev pub invariant-block_kept-loop-statement : goal.invariant-block_kept-loop-statement
invariant-block_kept-loop-statement l = BlockSoFar l.setting.range l.setting.whole.now l.held l.statement-items l.statement-index l.fn.best l.best

abbrev pub invariant-inside_kept-loop-branch : goal.invariant-inside_kept-loop-branch
invariant-inside_kept-loop-branch l = InsideSoFar l.setting.range l.setting.whole.now l.held l.branches l.branch-index l.fn.best l.best
