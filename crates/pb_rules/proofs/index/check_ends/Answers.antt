use Rattle.std.proofs.Common.{sym, subst}
use Rattle.pb_core_language.specs.Plain.{plain}
use Rattle.pb_rules.specs.Verdict.{IsFault}
use Rattle.pb_rules.proofs.Answered.{keeps_index, is_fault}
use Rattle.pb_rules.proofs.index.check_ends.Goals as goal

pub returns-in-None-clause-keeps : goal.returns-in-None-clause-keeps
returns-in-None-clause-keeps c = keeps_index (plain c.args.core.now) c.first_found.result c.requires.sound c.first_found.ensures c.in-None.is

pub returns-in-Some-clause-faults : goal.returns-in-Some-clause-faults
returns-in-Some-clause-faults c =
    subst (λ e. IsFault (plain c.args.core.now) e) (sym c.broken.ensures)
    (is_fault (plain c.args.core.now) c.first_found.result c.in-Some.found c.requires.sound c.requires.few c.first_found.ensures c.in-Some.is)
