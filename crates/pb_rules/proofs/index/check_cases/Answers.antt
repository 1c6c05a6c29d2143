use Rattle.std.proofs.Common.{sym, subst}
use Rattle.pb_core_language.specs.Plain.{plain}
use Rattle.pb_rules.specs.Verdict.{IsFault}
use Rattle.pb_rules.proofs.CutsSound.{small_cuts, are_all, few_cases}
use Rattle.pb_rules.proofs.Answered.{case_fault}
use Rattle.pb_rules.proofs.index.check_cases.Goals as goal

pub cuts_of-requires : goal.cuts_of-requires
cuts_of-requires c = small_cuts (plain c.args.core.now) c.requires

pub of-requires-clause-cuts : goal.of-requires-clause-cuts
of-requires-clause-cuts c = are_all (plain c.args.core.now) c.deref.result.now c.in-Ok.cuts.items c.requires c.deref.ensures.value c.in-Ok.ensures.same

pub returns-in-Ok-of-clause-few : goal.returns-in-Ok-of-clause-few
returns-in-Ok-of-clause-few c =
    let s = c.in-Ok-of.ensures in
    few_cases (plain c.args.core.now) c.deref.result.now c.in-Ok.cuts.items c.in-Ok-of.field-0 c.deref.ensures.value c.in-Ok.ensures.same s.0 s.1 s.2 s.3

pub returns-clause-faults : goal.returns-clause-faults
returns-clause-faults c =
    subst (λ e. IsFault (plain c.args.core.now) e) (sym c.fault_of.ensures)
    (case_fault (plain c.args.core.now) c.deref.result.now c.in-Ok.cuts.items c.in-Err.fault c.deref.ensures.value c.in-Ok.ensures.same c.in-Err.ensures)
