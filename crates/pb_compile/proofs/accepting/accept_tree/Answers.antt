use Rattle.pb_compile.proofs.Told.{kept}
use Rattle.pb_compile.proofs.accepting.accept_tree.Goals as goal

pub returns-in-Ok-check-clause-kept : goal.returns-in-Ok-check-clause-kept
returns-in-Ok-check-clause-kept c = kept _ _ c.in-Ok.ensures.keeps c.in-Ok.ensures.means c.in-Ok-check.ensures.keeps c.in-Ok-check.ensures.few
