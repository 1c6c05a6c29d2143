use Rattle.std.proofs.Common.{length}
use Rattle.pabble_renew.proofs.request.+count_of.Given as goal

abbrev pub decreases-count_of : goal.decreases-count_of
decreases-count_of l = length l.words.now
