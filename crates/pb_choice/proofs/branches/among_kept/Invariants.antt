use Rattle.pb_choice.specs.Senders.{AreCurrent}
use Rattle.pb_choice.proofs.Branching.{AmongSoFar}
use Rattle.pb_choice.proofs.branches.among_kept.Given as goal

abbrev pub invariant-loop-i : goal.invariant-loop-i
invariant-loop-i l =
    AreCurrent l.past.sources.items l.past.entries.items
    × AmongSoFar l.setting.range l.setting.whole.now l.held l.told l.branches l.i l.past.entries.items l.past.mixed.items l.fn.best l.best
