use Rattle.std.proofs.Common.{◌≡◌, None, OnOk, IfErr, subst}
use Rattle.pb_core_file_rules.specs.Lowering.{Finds}
use Rattle.pb_core.proofs.lowering.check_ends.Goals as goal

pub returns-clause-keeps : goal.returns-clause-keeps
returns-clause-keeps c = subst (λ p. OnOk c.refuse.result (p ≡ None)) c.ending_in.ensures.first c.refuse.ensures.none

pub returns-clause-breaks : goal.returns-clause-breaks
returns-clause-breaks c = subst (λ p. IfErr c.refuse.result (λ e. Finds 4 p e)) c.ending_in.ensures.first c.refuse.ensures.some
