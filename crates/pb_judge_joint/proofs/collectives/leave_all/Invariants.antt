use Rattle.std.proofs.Common.{◌≡◌, None}
use Rattle.pb_judge_lists.specs.Places.{left_of}
use Rattle.pb_judge_steps.specs.Met.{Met}
use Rattle.pb_judge_joint.specs.Setting.{collective_of}
use Rattle.pb_judge_joint.specs.Joined.{all_leave, share}
use Rattle.pb_judge_joint.proofs.collectives.leave_all.Given as goal

abbrev pub invariant-loop-rank : goal.invariant-loop-rank
invariant-loop-rank l = record {
  met : Met (all_leave (collective_of l.joint) l.rank (share (collective_of l.joint) l.all)) (left_of l.fn.lists) None (left_of l.lists);
  log : l.lists.log ≡ l.fn.lists.log;
}
