use Rattle.pb_core_language.specs.FlatOf.{rank_of}
use Rattle.pb_judge_lists.specs.Places.{left_of}
use Rattle.pb_judge_blocks.proofs.Stepping.{message_walks}
use Rattle.pb_judge_blocks.proofs.simple.send.Goals as goal

pub returns-clause-walked : goal.returns-clause-walked
returns-clause-walked c =
    let site = c.args.site.now in
    message_walks site c.args.i.now (left_of c.args.lists.now) (left_of c.message.new.lists) (rank_of site.roles.now site.n c.args.from.now c.args.i.now) (rank_of site.roles.now site.n c.args.to.now c.args.i.now) c.args.label c.size.result
    c.rank_of-sender.result c.rank_of-receiver.result c.message.result c.flow_of.result c.rank_of-sender.ensures c.rank_of-receiver.ensures c.size.ensures c.flow_of.ensures c.message.ensures.met
