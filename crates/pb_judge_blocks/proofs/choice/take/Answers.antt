use Rattle.std.proofs.Common.{length, refl}
use Rattle.pb_judge_lists.specs.Places.{left_of}
use Rattle.pb_judge_blocks.proofs.Choices.{takes}
use Rattle.pb_judge_blocks.proofs.choice.take.Goals as goal

pub returns-clause-takes : goal.returns-clause-takes
returns-clause-takes c =
    takes c.args.site.now c.args.i.now c.args.kernel c.args.at.now c.args.branches.now (left_of c.args.lists.now) (left_of c.choose.new.lists) c.rank_of-rank.result (length c.args.branches.now) c.first_ending-otherwise.result c.choose.result c.rank_of-rank.ensures
    refl c.first_ending-otherwise.ensures c.choose.ensures.chosen
