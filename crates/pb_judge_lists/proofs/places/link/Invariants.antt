use Rattle.std.proofs.Common.{◌≡◌, ◌≤◌, length}
use Rattle.pb_judge_lists.specs.Places.{AreLinked}
use Rattle.pb_judge_lists.proofs.places.link.Given as goal

abbrev pub invariant-loop-at : goal.invariant-loop-at
invariant-loop-at l = record {
  within : l.at ≤ length l.log;
  nexts : length l.next ≡ length l.fn.next;
  afters : length l.after ≡ length l.log;
  linked : AreLinked l.log l.at l.next l.after;
}

abbrev pub decreases-loop-at : goal.decreases-loop-at
decreases-loop-at l = l.at
