use Rattle.pb_choice.proofs.Tolds.{TakersSoFar}
use Rattle.pb_choice.proofs.told.takers_among.Given as goal

abbrev pub invariant-loop-branch : goal.invariant-loop-branch
invariant-loop-branch l = TakersSoFar l.setting.range l.setting.whole.now l.held l.branches l.branch-index l.areas.items
