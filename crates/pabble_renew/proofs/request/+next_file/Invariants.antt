use Rattle.std.proofs.Common.{length}
use Rattle.pabble_renew.proofs.request.+next_file.Given as goal

abbrev pub decreases-next_file : goal.decreases-next_file
decreases-next_file l = length l.words.now
