use Rattle.std.proofs.lemmas.Result.{on_ok_weaker}
use Rattle.pb_choice_entries.proofs.Lessened.{both_less}
use Rattle.pb_choice_entries.proofs.difference.+halving.Goals as goal

pub add_less-returns : goal.add_less-returns
add_less-returns t c =
    on_ok_weaker c.add_near-2.result
    (both_less c.args.list.now c.args.others.now c.split_at.result.0.now c.split_at.result.1.now c.args.out.now.items c.add_near.new.out.items c.add_near-2.new.out.items
    c.split_at.ensures.by_index.0 c.in_ok-add_near.ensures)
    c.add_near-2.ensures
