use Rattle.pb_renew_put.proofs.Closing.{halfway, undone_so, some_behind}
use Rattle.pb_renew_put.proofs.Leads.{ends_so, from_same, then_leads}
use Rattle.pb_renew_put.proofs.left.finish.Goals as goal

pub returns-in-Ok-clause-goes : goal.returns-in-Ok-clause-goes
returns-in-Ok-clause-goes g c = λ kept taken done. c.in-Ok.ensures.goes _ kept taken c.requires.files (some_behind _ _ c.requires.leaving) done

pub returns-in-Ok-undo-clause-goes : goal.returns-in-Ok-undo-clause-goes
returns-in-Ok-undo-clause-goes g c = λ kept taken done.
    then_leads (c.in-Err.ensures.goes _ kept taken c.requires.files (some_behind _ _ c.requires.leaving) done)
    (λ q at. from_same q at.2 (ends_so (c.in-Ok-undo.ensures.goes _ kept taken at.0 c.requires.files c.requires.leaving at.1)
    (λ p so. undone_so _ kept taken _ _ _ p c.in-Err.ensures.fault c.in-Ok-undo.ensures.later so)))

pub returns-in-Err-undo-clause-goes : goal.returns-in-Err-undo-clause-goes
returns-in-Err-undo-clause-goes g c = λ kept taken done.
    then_leads (c.in-Err.ensures.goes _ kept taken c.requires.files (some_behind _ _ c.requires.leaving) done)
    (λ q at. from_same q at.2 (ends_so (c.in-Err-undo.ensures.goes _ kept taken at.0 c.requires.files c.requires.leaving at.1)
    (λ p so. halfway _ _ _ _ p c.in-Err.ensures.fault so)))
