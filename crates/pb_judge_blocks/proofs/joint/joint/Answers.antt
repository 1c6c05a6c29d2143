use Rattle.pb_judge_lists.specs.Places.{left_of}
use Rattle.pb_judge_joint.specs.Setting.{collective_of}
use Rattle.pb_judge_blocks.specs.Places.{setting_at}
use Rattle.pb_judge_blocks.proofs.Stepping.{joint_walks}
use Rattle.pb_judge_blocks.proofs.joint.joint.Goals as goal

pub returns-clause-walked : goal.returns-clause-walked
returns-clause-walked c =
    joint_walks (setting_at c.args.site.now) (collective_of c.args.joint.now) (left_of c.args.lists.now) (left_of c.together.new.lists) c.in_ok-met.met c.flow_of.result c.flow_of.ensures c.in_ok-met.ensures.met
