use Rattle.std.proofs.Common.{◌∙◌}
use Rattle.pb_judge_lists.specs.Places.{left_of}
use Rattle.pb_judge_joint.specs.Setting.{collective_of}
use Rattle.pb_judge_joint.specs.Joined.{share}
use Rattle.pb_judge_joint.proofs.Joining.{leave_more, leave_stops}
use Rattle.pb_judge_joint.proofs.collectives.leave_all.Goals as goal

pub returns-in-Some-clause-met : goal.returns-in-Some-clause-met
returns-in-Some-clause-met c =
    leave_stops (collective_of c.args.joint.now) (share (collective_of c.args.joint.now) c.args.all.now) c.loop-rank.rank c.args.setting.now.total (left_of c.args.lists.now) (left_of c.loop-rank.lists) (left_of c.leave.new.lists)
    c.in-Some.difference c.loop-rank-test.true c.loop-rank.invariant.met c.in-Some.ensures.met

pub loop-rank-preserved : goal.loop-rank-preserved
loop-rank-preserved c = record {
  met =
      leave_more (collective_of c.args.joint.now) (share (collective_of c.args.joint.now) c.args.all.now) c.loop-rank.rank (left_of c.args.lists.now) (left_of c.loop-rank.lists) (left_of c.leave.new.lists) c.loop-rank.invariant.met
      c.in_default.ensures.met;
  log = c.leave.ensures.log ∙ c.loop-rank.invariant.log;
}
