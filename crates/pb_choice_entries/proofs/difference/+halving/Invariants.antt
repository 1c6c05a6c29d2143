use Rattle.std.proofs.Common.{◌+◌, ◌*◌, length}
use Rattle.pb_choice_entries.proofs.difference.+halving.Given as goal

abbrev pub decreases-add_less : goal.decreases-add_less
decreases-add_less l = 2 * length l.list.now

abbrev pub decreases-add_near : goal.decreases-add_near
decreases-add_near l = 2 * length l.list.now + 1
