use Rattle.pb_choice_entries.proofs.Adds.{all_forks}
use Rattle.pb_choice_entries.proofs.pairs.forks.Goals as goal

pub returns : goal.returns
returns c =
    all_forks c.args.here.now c.args.before.now c.new-out.result.items c.add_pairs_among.new.out.items c.add_pairs_among-2.new.out.items c.new-out.ensures.items
    c.in_ok-add_pairs_among.ensures c.in_ok-add_pairs_among-2.ensures
