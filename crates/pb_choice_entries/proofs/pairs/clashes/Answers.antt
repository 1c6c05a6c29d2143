use Rattle.pb_choice_entries.proofs.Adds.{all_clashes}
use Rattle.pb_choice_entries.proofs.pairs.clashes.Goals as goal

pub returns : goal.returns
returns c =
    all_clashes c.args.here.now c.in_ok-mine.mine.items c.args.before.now c.new-out.result.items c.add_pairs.new.out.items c.new-out.ensures.items
    c.in_ok-mine.ensures.is c.in_ok-mine.ensures.small c.in_ok-add_pairs.ensures
