use Rattle.std.proofs.Common.{◌+◌, ◌*◌, length}
use Rattle.pb_choice_entries.proofs.pairs.+halving.Given as goal

abbrev pub decreases-add_pairs_among : goal.decreases-add_pairs_among
decreases-add_pairs_among l = 2 * length l.here.now

abbrev pub decreases-add_pairs_close : goal.decreases-add_pairs_close
decreases-add_pairs_close l = 2 * length l.here.now + 1
