use Rattle.std.proofs.Common.{length}
use Rattle.pb_plain_run.proofs.doing.+go_back.Given as goal

abbrev pub decreases-go_back : goal.decreases-go_back
decreases-go_back l = length l.stack.now.items
