use Rattle.std.proofs.Common.{length}
use Rattle.pb_cread_statements.proofs.kept.+is_around.Given as goal

abbrev pub decreases-is_around : goal.decreases-is_around
decreases-is_around l = length l.stack.now
