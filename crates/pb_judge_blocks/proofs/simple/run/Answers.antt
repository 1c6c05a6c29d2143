use Rattle.pb_core_language.specs.FlatOf.{rank_of}
use Rattle.pb_judge_lists.specs.Places.{left_of}
use Rattle.pb_judge_blocks.proofs.Stepping.{compute_walks}
use Rattle.pb_judge_blocks.proofs.simple.run.Goals as goal

pub returns-clause-walked : goal.returns-clause-walked
returns-clause-walked c =
    let site = c.args.site.now in
    compute_walks site c.args.i.now (left_of c.args.lists.now) (left_of c.compute.new.lists) (rank_of site.roles.now site.n c.args.at.now c.args.i.now) c.rank_of-rank.result c.args.kernel c.compute.result c.flow_of.result c.rank_of-rank.ensures
    c.flow_of.ensures c.compute.ensures.met
