use Rattle.std.proofs.lemmas.Result.{on_ok_weaker}
use Rattle.pb_choice_entries.proofs.Halves.{both_halves}
use Rattle.pb_choice_entries.proofs.pairs.+halving.Goals as goal

pub add_pairs_among-returns : goal.add_pairs_among-returns
add_pairs_among-returns t c =
    on_ok_weaker c.add_pairs_close-2.result
    (both_halves c.args.pairing c.args.here.now c.args.others.now c.split_at.result.0.now c.split_at.result.1.now c.args.out.now.items c.add_pairs_close.new.out.items c.add_pairs_close-2.new.out.items
    c.split_at.ensures.by_index.0 c.in_ok-add_pairs_close.ensures)
    c.add_pairs_close-2.ensures
