use Rattle.pb_world.specs.Actions as W
use Rattle.pb_core_language.specs.FlatOf.{rank_of, operation_of}
use Rattle.pb_judge_lists.specs.Places.{left_of}
use Rattle.pb_judge_blocks.proofs.Stepping.{rooted}
use Rattle.pb_judge_blocks.proofs.joint.reduce.Goals as goal

pub returns-clause-walked : goal.returns-clause-walked
returns-clause-walked c =
    let site = c.args.site.now in
    rooted site c.args.i.now (λ r. W.Reduce c.args.label (operation_of c.args.op) r) (left_of c.args.lists.now) (left_of c.joint.new.lists) c.joint.result c.rank_of-root.result (rank_of site.roles.now site.n c.args.root.now c.args.i.now)
    c.rank_of-root.ensures c.joint.ensures.walked
