use Rattle.std.proofs.Common.{◌≡◌, None}
use Rattle.pb_judge_lists.specs.Places.{left_of}
use Rattle.pb_judge_steps.specs.Met.{Met}
use Rattle.pb_judge_joint.specs.Setting.{setting_of, collective_of, operate_with}
use Rattle.pb_judge_joint.specs.Joined.{all_enter, entering, joined}
use Rattle.pb_judge_joint.proofs.collectives.together.Given as goal

abbrev pub invariant-loop-rank : goal.invariant-loop-rank
invariant-loop-rank l = record {
  met : Met (all_enter (collective_of l.joint) l.rank (entering (setting_of l.setting) (collective_of l.joint) (left_of l.fn.lists))) (left_of l.fn.lists) None (left_of l.lists);
  words : l.all.items ≡ joined (operate_with l.setting.labels.now) (collective_of l.joint) l.rank (entering (setting_of l.setting) (collective_of l.joint) (left_of l.fn.lists));
  log : l.lists.log ≡ l.fn.lists.log;
}
