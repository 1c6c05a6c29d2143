use Rattle.std.proofs.Common.{length}
use Rattle.pabble_renew.proofs.request.+has_unknown.Given as goal

abbrev pub decreases-has_unknown : goal.decreases-has_unknown
decreases-has_unknown l = length l.words.now
